-- A statement of a well formed body is seen with its method's locals and the program's fields alone.
use Rattle.std.proofs.Common.{◌≡◌, zero, suc, List, [], ◌∷◌, Option, Some, None, All, Contains, map, refl, sym, subst, arith}
use Rattle.std.proofs.lemmas.List.Elements.{All-head, All-tail}
use Rattle.std.proofs.lemmas.Option.{same_Some}
use Rattle.clean_base.specs.declared.ids.FieldId.{FieldId}
use Rattle.clean_base.specs.declared.ids.LocalId.{LocalId}
use Rattle.clean_base.specs.declared.ids.MethodId.{MethodId}
use Rattle.clean_base.specs.declared.ids.StmtId.{StmtId}
use Rattle.jimple_tree.specs.WellFormed.{BaseFits, ImmFits, InvokeFits, LocalFits, PlaceFits, RhsFits, StmtFits}
use Rattle.jimple_tree.specs.declared.tree.Body.{Body}
use Rattle.jimple_tree.specs.declared.tree.Class.{Class}
use Rattle.jimple_tree.specs.declared.tree.FieldSig.{FieldSig}
use Rattle.jimple_tree.specs.declared.tree.Given.{Given}
use Rattle.jimple_tree.specs.declared.tree.Given.TheVariants as given
use Rattle.jimple_tree.specs.declared.tree.Imm.{Imm}
use Rattle.jimple_tree.specs.declared.tree.Imm.TheVariants as imm
use Rattle.jimple_tree.specs.declared.tree.Invoke.{Invoke}
use Rattle.jimple_tree.specs.declared.tree.InvokeKind.{InvokeKind}
use Rattle.jimple_tree.specs.declared.tree.InvokeKind.TheVariants as kinds
use Rattle.jimple_tree.specs.declared.tree.Place.{Place}
use Rattle.jimple_tree.specs.declared.tree.Place.TheVariants as place
use Rattle.jimple_tree.specs.declared.tree.Rhs.{Rhs}
use Rattle.jimple_tree.specs.declared.tree.Rhs.TheVariants as rhs
use Rattle.jimple_tree.specs.declared.tree.Stmt.{Stmt}
use Rattle.jimple_tree.specs.declared.tree.Stmt.TheVariants as stmt
use Rattle.source_sink.specs.declared.line.Line.{Line}
use Rattle.access_path.specs.declared.view.CallView.{CallView}
use Rattle.access_path.specs.declared.view.View.{View}
use Rattle.flow_rules.specs.Code.{Code}
use Rattle.flow_rules.specs.Own.{IsField, IsLocalOf, OwnBase, OwnCall, OwnOperand, OwnView}
use Rattle.statement_views.specs.Seen.{assign_ref, read_ref, ref_of}
use Rattle.statement_views.specs.Views.{IsAssignment, IsCallView, IsRead, IsView, copied, given_by, local_of, source_of, stored}

module _ (cs : List Class) (lines : List Line) (code : Code) (m : MethodId) (b : Body)
    (locals : (x : LocalId) → LocalFits b x → IsLocalOf code m x) (elements : IsField code (record { 0 = 0 })) (f : FieldId) (at : StmtId) where
  own_imm : (value : Imm) → ImmFits b value → OwnOperand code m (local_of value)
  own_imm (imm.Local x) fits y same = subst (IsLocalOf code m) (same_Some x y same) (locals x fits)
  own_imm (imm.Literal text) fits y same = absurd (cc)

  -- the receiver, a parameter and an exception are no local
  own_source : (what : Given) → OwnBase code m (source_of what)
  own_source (given.This type) = tt
  own_source (given.Param n type) = tt
  own_source given.Caught = tt

  own_none : OwnOperand code m None
  own_none y same = absurd (cc)

  own_copied : (to : LocalId) (value : Imm) → LocalFits b to → ImmFits b value → OwnView code m (copied to value)
  own_copied to (imm.Local x) fits own = (locals to fits, locals x own)
  own_copied to (imm.Literal text) fits own = locals to fits

  own_given : (value : Option Imm) → StmtFits b (stmt.Return value) → OwnOperand code m (given_by value)
  own_given None fits = own_none
  own_given (Some value) fits = own_imm value fits

  own_stored : (value : Rhs) → RhsFits b value → OwnOperand code m (stored value)
  own_stored (rhs.Use value) fits = own_imm value fits
  own_stored (rhs.Cast type value) fits = own_none
  own_stored (rhs.Load base sig) fits = own_none
  own_stored (rhs.StaticLoad sig) fits = own_none
  own_stored (rhs.Element base index) fits = own_none
  own_stored (rhs.New class) fits = own_none
  own_stored (rhs.NewArray type len) fits = own_none
  own_stored (rhs.NewMulti type lens bare) fits = own_none
  own_stored (rhs.InstanceOf value type) fits = own_none
  own_stored (rhs.Length value) fits = own_none
  own_stored (rhs.Neg value) fits = own_none
  own_stored (rhs.Binary op left right) fits = own_none
  own_stored (rhs.Call invoke) fits = own_none

  -- a call's operands are the body's
  own_base : (invoke : Invoke) → InvokeFits b invoke → OwnOperand code m invoke.base
  own_base invoke fits = by invoke.kind invoke.base fits.0 where
    by : (kind : InvokeKind) (base : Option LocalId) → BaseFits b kind base → OwnOperand code m base
    by kind None fits = own_none
    by kinds.Static (Some x) fits = absurd fits
    by kinds.Special (Some x) fits = λ y same. subst (IsLocalOf code m) (same_Some x y same) (locals x fits)
    by kinds.Virtual (Some x) fits = λ y same. subst (IsLocalOf code m) (same_Some x y same) (locals x fits)
    by kinds.Interface (Some x) fits = λ y same. subst (IsLocalOf code m) (same_Some x y same) (locals x fits)

  own_args : (args : List Imm) → All (ImmFits b) args → (x : LocalId) → Contains (map local_of args) (Some x) → IsLocalOf code m x
  own_args [] fits x has = let below = has.1 in absurd (omega (arith, below))
  own_args (arg ∷ args) fits x (zero, below, is) = own_imm arg (All-head (ImmFits b) arg args fits) x is
  own_args (arg ∷ args) fits x (suc k, below, is) = own_args args (All-tail (ImmFits b) arg args fits) x (k, omega (arith, below), is)

  own_call : (to : Option LocalId) (invoke : Invoke) (call : CallView)
      → OwnOperand code m to → InvokeFits b invoke → IsCallView cs lines at to invoke call → OwnCall code m call
  own_call to invoke call own fits is = record {
    result = subst (OwnOperand code m) (sym is.gives) own;
    receiver = subst (OwnOperand code m) (sym is.on) (own_base invoke fits);
    args = λ x has. own_args invoke.args fits.2 x (subst (λ (xs : List (Option LocalId)). Contains xs (Some x)) is.takes has);
  }

  own_to : (to : LocalId) → LocalFits b to → OwnOperand code m (Some to)
  own_to to fits y same = subst (IsLocalOf code m) (same_Some to y same) (locals to fits)

  read_owned : (to : LocalId) (value : Rhs) (view : View)
      → LocalFits b to → RhsFits b value → ((sig : FieldSig) → read_ref value ≡ Some sig → IsField code f) → IsRead cs lines f at to value view → OwnView code m view
  read_owned to (rhs.Use value) view own fits field is = subst (OwnView code m) (sym is) (own_copied to value own fits)
  read_owned to (rhs.Cast type value) view own fits field is = subst (OwnView code m) (sym is) (own_copied to value own fits)
  read_owned to (rhs.Load base sig) view own fits field is = subst (OwnView code m) (sym is) (locals to own, locals base fits, field sig refl)
  read_owned to (rhs.StaticLoad sig) view own fits field is = subst (OwnView code m) (sym is) (locals to own, field sig refl)
  read_owned to (rhs.Element base index) view own fits field is = subst (OwnView code m) (sym is) (locals to own, locals base fits.0, elements)
  read_owned to (rhs.Neg value) view own fits field is = subst (OwnView code m) (sym is) (locals to own, own_imm value fits, own_none)
  read_owned to (rhs.Binary op left right) view own fits field is = subst (OwnView code m) (sym is) (locals to own, own_imm left fits.0, own_imm right fits.1)
  read_owned to (rhs.Call invoke) view own fits field is = subst (OwnView code m) (sym is.2) (own_call (Some to) invoke is.0 (own_to to own) fits is.1)
  read_owned to (rhs.New class) view own fits field is = subst (OwnView code m) (sym is) (locals to own)
  read_owned to (rhs.NewArray type len) view own fits field is = subst (OwnView code m) (sym is) (locals to own)
  read_owned to (rhs.NewMulti type lens bare) view own fits field is = subst (OwnView code m) (sym is) (locals to own)
  read_owned to (rhs.InstanceOf value type) view own fits field is = subst (OwnView code m) (sym is) (locals to own)
  read_owned to (rhs.Length value) view own fits field is = subst (OwnView code m) (sym is) (locals to own)

  assigned_owned : (to : Place) (value : Rhs) (view : View)
      → PlaceFits b to → RhsFits b value → ((sig : FieldSig) → assign_ref to value ≡ Some sig → IsField code f) → IsAssignment cs lines f at to value view → OwnView code m view
  assigned_owned (place.Local to) value view own fits field is = read_owned to value view own fits field is
  assigned_owned (place.Field base sig) value view own fits field is = subst (OwnView code m) (sym is) (locals base own, field sig refl, own_stored value fits)
  assigned_owned (place.Static sig) value view own fits field is = subst (OwnView code m) (sym is) (field sig refl, own_stored value fits)
  assigned_owned (place.Element base index) value view own fits field is = subst (OwnView code m) (sym is) (locals base own.0, elements, own_stored value fits)

  -- the view of a statement that fits the body
  pub view_owned : (s : Stmt) (view : View)
      → StmtFits b s → ((sig : FieldSig) → ref_of s ≡ Some sig → IsField code f) → IsView cs lines f at s view → OwnView code m view
  view_owned (stmt.Identity to what) view fits field is = subst (OwnView code m) (sym is) (locals to fits.0, own_source what)
  view_owned (stmt.Assign to value) view fits field is = assigned_owned to value view fits.0 fits.1 field is
  view_owned (stmt.Call invoke) view fits field is = subst (OwnView code m) (sym is.2) (own_call None invoke is.0 own_none fits is.1)
  view_owned (stmt.Return value) view fits field is = subst (OwnView code m) (sym is) (own_given value fits)
  view_owned (stmt.Throw value) view fits field is = subst (OwnView code m) (sym is) (own_imm value fits)
  view_owned (stmt.If left cond right target) view fits field is = subst (OwnView code m) (sym is) tt
  view_owned (stmt.Goto target) view fits field is = subst (OwnView code m) (sym is) tt
  view_owned (stmt.Switch table key cases default) view fits field is = subst (OwnView code m) (sym is) tt
  view_owned stmt.Nop view fits field is = subst (OwnView code m) (sym is) tt
  view_owned (stmt.Enter value) view fits field is = subst (OwnView code m) (sym is) tt
  view_owned (stmt.Exit value) view fits field is = subst (OwnView code m) (sym is) tt
