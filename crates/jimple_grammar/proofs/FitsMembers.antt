-- The trees of members, of classes and of a file fit.
use Rattle.std.proofs.Common.{◌≡◌, ℕ, zero, suc, pred, ◌≤◌, true, false, List, [], ◌∷◌, ◌++◌, length, All, refl, arith}
use Rattle.std.proofs.lemmas.List.Elements.{All-nil, All-cons}
use Rattle.jimple_grammar.specs.declared.lexeme.Lexeme.{Lexeme}
use Rattle.jimple_words.specs.declared.kind.Kind.TheVariants as kinds
use Rattle.jimple_grammar.specs.declared.raw.RawClass.{RawClass}
use Rattle.jimple_grammar.specs.declared.raw.RawHead.{RawHead}
use Rattle.jimple_grammar.specs.declared.raw.RawType.{RawType}
use Rattle.jimple_words.specs.Sets.{names, types, words, modifiers, sure_types}
use Rattle.jimple_grammar.specs.Grammar.{ends, Spells}
use Rattle.clean_base.specs.Limits.{most_params}
use Rattle.jimple_grammar.specs.Forms.{too_many, param_slot, next_param, later_params, heading_params, throws, body_or_none, modifier, plain_rest, far_rest, member_type, head, method_rest, behind_head, member, implements, extends_one, extends_several, class_heading, interface_heading, heading, members, class, file}
use Rattle.jimple_grammar.specs.Fits.{Is, TypeFits, OptionalBodyFits, HeadFits, MemberFits, HeadingFits, ClassFits}
use Rattle.jimple_grammar.proofs.FitsParts.{Yields, anything, of_nothing, of_token, of_refused, of_either, of_both, behind, app, keep, skip, weaker, of_many, of_plain, wider}
use Rattle.jimple_grammar.proofs.FitsOperands.{name_fits, any_name_fits, several_names_fit, ty_fits}
use Rattle.jimple_grammar.proofs.FitsBodies.{one_more, body_fits}

-- a type with this base, and its name
abbrev BehindBase : (Lexeme → Type 0) → ℕ → (Lexeme → RawType × Lexeme) → Type 0
BehindBase P n f = (base : Lexeme) → Is P n types base → TypeFits P n (f base).0 × Is P n words (f base).1

module _ {P : Lexeme → Type 0} {n : ℕ} where
  param_slot_fits : (room : ℕ) → Yields P n (param_slot room) (λ t. TypeFits P n t × (1 ≤ room))
  param_slot_fits zero = of_refused too_many types
  param_slot_fits (suc room) = weaker ty_fits (λ t h. (h, omega arith))

  later_params_fit : Yields P n later_params (λ xs. All (TypeFits P n) xs × (length xs ≤ pred most_params))
  unfolding later_params
  later_params_fit = of_many next_param (λ n x. pred n) ends (λ room t. TypeFits P n t × (1 ≤ room)) (λ room xs. All (TypeFits P n) xs × (length xs ≤ room)) (λ u. Unit {0})
      (λ room. (All-nil (TypeFits P n), omega arith)) (λ room x xs h i. (All-cons (TypeFits P n) x xs h.0 i.0, one_more room (length xs) h.1 i.1)) (λ room. skip (param_slot_fits room)) anything (λ xs end h k. h)

  heading_params_fit : Yields P n heading_params (λ xs. All (TypeFits P n) xs × (length xs ≤ most_params))
  unfolding heading_params
  heading_params_fit = of_either (of_both ty_fits later_params_fit (λ x xs h i. (All-cons (TypeFits P n) x xs h i.0, one_more most_params (length xs) (omega arith) i.1))) (of_nothing (All-nil (TypeFits P n), omega arith))

  throws_fit : Yields P n throws (All (Is P n names))
  unfolding throws
  throws_fit = of_either (skip several_names_fit) (of_nothing (All-nil (Is P n names)))

  body_or_none_fits : Yields P n body_or_none (OptionalBodyFits P n)
  unfolding body_or_none
  body_or_none_fits = of_either (app anything (of_nothing (λ end h. tt))) (app body_fits (of_nothing (λ b h. h)))

  plain_rest_fits : Yields P n plain_rest (BehindBase P n)
  plain_rest_fits = of_both anything any_name_fits (λ dims name h k base b. (b, k))

  far_rest_fits : Yields P n far_rest (BehindBase P n)
  far_rest_fits = skip (of_both anything any_name_fits (λ dims name h k base b. (b, k)))

  member_type_fits : Yields P n member_type (λ r. TypeFits P n r.0 × Is P n words r.1)
  unfolding member_type
  member_type_fits = of_either (of_both (of_token sure_types) plain_rest_fits (λ base f h k. k base (wider P n sure_types types refl base h)))
      (of_both (of_token (kinds.Further ∷ [])) far_rest_fits (λ base f h k. k base (wider P n (kinds.Further ∷ []) types refl base h)))

  modifier_fits : Yields P n modifier (Is P n (modifiers ++ kinds.Further ∷ []))
  modifier_fits = of_token (modifiers ++ kinds.Further ∷ [])

  head_fits : Yields P n head (HeadFits P n)
  unfolding head
  head_fits = of_plain modifier_fits member_type_fits (λ ms r h k. record { modifiers = h; ty = k.0; name = k.1 })

  behind_head_fits : (h : RawHead) → HeadFits P n h → Yields P n (behind_head h) (MemberFits P n)
  unfolding behind_head method_rest
  behind_head_fits h f = of_either (app anything (of_nothing (λ end k. f)))
      (app body_or_none_fits (app throws_fit (keep (app heading_params_fit (keep (of_nothing (λ params p throws t body b. (f, record { params = p.0; few = p.1; throws = t; body = b }))))))))

  member_fits : Yields P n member (MemberFits P n)
  unfolding member
  member_fits = behind head_fits behind_head_fits

  implements_fit : Yields P n implements (All (Is P n names))
  unfolding implements
  implements_fit = of_either (skip several_names_fit) (of_nothing (All-nil (Is P n names)))

  extends_one_fits : Yields P n extends_one (λ xs. All (Is P n names) xs × (length xs ≤ 1))
  unfolding extends_one
  extends_one_fits = of_either (app name_fits (keep (of_nothing (λ x h. (All-cons (Is P n names) x [] h (All-nil (Is P n names)), omega arith))))) (of_nothing (All-nil (Is P n names), omega arith))

  extends_several_fit : Yields P n extends_several (All (Is P n names))
  unfolding extends_several
  extends_several_fit = of_either (skip several_names_fit) (of_nothing (All-nil (Is P n names)))

  class_heading_fits : Yields P n class_heading (HeadingFits P n)
  unfolding class_heading
  class_heading_fits = app implements_fit (app extends_one_fits (app name_fits (keep (of_nothing (λ name m extends e implements i. record { name = m; extends = e.0; superclass = λ c. e.1; implements = i })))))

  interface_heading_fits : Yields P n interface_heading (HeadingFits P n)
  unfolding interface_heading
  interface_heading_fits = app implements_fit (app extends_several_fit (app name_fits (keep (of_nothing (λ name m extends e implements i. record { name = m; extends = e; superclass = λ c. absurd (let bad : true ≡ false = c in cc); implements = i })))))

  heading_fits : Yields P n heading (HeadingFits P n)
  unfolding heading
  heading_fits = of_either class_heading_fits interface_heading_fits

  members_fit : Yields P n members (All (MemberFits P n))
  unfolding members
  members_fit = skip (of_plain member_fits anything (λ xs end h k. h))

  class_fits : Yields P n class (ClassFits P n)
  unfolding class
  class_fits = of_plain {QB = λ r. HeadingFits P n r.0 × All (MemberFits P n) r.1} modifier_fits (of_both heading_fits members_fit (λ x ms h k. (h, k))) (λ ms r h k. record { modifiers = h; heading = k.0; members = k.1 })

  file_yields : Yields P n file (All (ClassFits P n))
  unfolding file
  file_yields = of_plain class_fits anything (λ xs end h k. h)

-- each class of a file that the tokens spell
pub file_fits : (P : Lexeme → Type 0) (n : ℕ) (ts : List Lexeme) (v : List RawClass) → All P ts → length ts ≤ n → Spells file ts v → All (ClassFits P n) v
file_fits P n ts v all le h = file_yields.fits ts v all le h
