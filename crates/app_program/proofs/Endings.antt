-- Where a method may end, by what is seen there.
use Rattle.std.proofs.Common.{◌≡◌, ◌⊎◌, ◌↔◌, Option, true, refl, subst, inl, inr}
use Rattle.clean_base.specs.Lists.{At}
use Rattle.clean_base.specs.declared.ids.LocalId.{LocalId}
use Rattle.clean_base.specs.declared.ids.StmtId.{StmtId}
use Rattle.access_path.specs.declared.view.CallView.{CallView}
use Rattle.access_path.specs.declared.view.View.{View}
use Rattle.access_path.specs.declared.view.View.TheVariants as views
use Rattle.flow_rules.specs.Code.{Code, IsReturn, MayThrow}
use Rattle.program_code.specs.Views.{Raises}
use Rattle.app_program.specs.Ends.{Gives, IsSeen}

return_of : (view : View) → Gives view → (value : Option LocalId) × (view ≡ views.Return value)
return_of (views.Return value) gives = (value, refl)
return_of (views.Copy to from) gives = absurd gives
return_of (views.Kill to) gives = absurd gives
return_of (views.Load to base field) gives = absurd gives
return_of (views.Store base field from) gives = absurd gives
return_of (views.StaticStore field from) gives = absurd gives
return_of (views.Mix to left right) gives = absurd gives
return_of (views.Call call) gives = absurd gives
return_of (views.Throw value) gives = absurd gives
return_of views.Other gives = absurd gives

abbrev IsThrown : View → Type 0
IsThrown view = ((value : Option LocalId) × (view ≡ views.Throw value)) ⊎ ((call : CallView) × (view ≡ views.Call call) × (call.is_open ≡ true))

throw_of : (view : View) → Raises view → IsThrown view
throw_of (views.Throw value) raises = inl (value, refl)
throw_of (views.Call call) raises = inr (call, refl, raises)
throw_of (views.Return value) raises = absurd raises
throw_of (views.Copy to from) raises = absurd raises
throw_of (views.Kill to) raises = absurd raises
throw_of (views.Load to base field) raises = absurd raises
throw_of (views.Store base field from) raises = absurd raises
throw_of (views.StaticStore field from) raises = absurd raises
throw_of (views.Mix to left right) raises = absurd raises
throw_of views.Other raises = absurd raises

module _ (code : Code) (s : StmtId) where
  pub returns_seen : IsSeen code.views Gives s ↔ IsReturn code s
  returns_seen = (
    (λ seen. let (value, is) = return_of seen.0 seen.2 in (value, subst (At code.views s.0) is seen.1)),
    (λ returns. (views.Return returns.0, returns.1, tt)),
  )

  pub throws_seen : IsSeen code.views Raises s ↔ MayThrow code s
  throws_seen = (there, back) where
    there : IsSeen code.views Raises s → MayThrow code s
    there (view, stands, raises) = elim (throw_of view raises) [
      | inl (value, is) ↦ inl (value, subst (At code.views s.0) is stands)
      | inr (call, is, opens) ↦ inr (call, (subst (At code.views s.0) is stands, opens))
    ]

    back : MayThrow code s → IsSeen code.views Raises s
    back (inl (value, stands)) = (views.Throw value, stands, tt)
    back (inr (call, (stands, opens))) = (views.Call call, stands, opens)
