-- What a view says of the statement that is seen so: only a call is seen as a call, only a return as one, and so on.
use Rattle.std.proofs.Common.{◌≡◌, List, Option, Some, None, refl, sym, subst}
use Rattle.std.proofs.lemmas.Option.{none-some, same_Some}
use Rattle.clean_base.specs.declared.ids.FieldId.{FieldId}
use Rattle.clean_base.specs.declared.ids.LocalId.{LocalId}
use Rattle.clean_base.specs.declared.ids.StmtId.{StmtId}
use Rattle.jimple_tree.specs.WellFormed.{InvokeFits, IsUse, PlaceTakes, RhsFits, StmtFits}
use Rattle.jimple_tree.specs.declared.tree.Body.{Body}
use Rattle.jimple_tree.specs.declared.tree.Class.{Class}
use Rattle.jimple_tree.specs.declared.tree.Imm.{Imm}
use Rattle.jimple_tree.specs.declared.tree.Imm.TheVariants as imm
use Rattle.jimple_tree.specs.declared.tree.Invoke.{Invoke}
use Rattle.jimple_tree.specs.declared.tree.Place.{Place}
use Rattle.jimple_tree.specs.declared.tree.Place.TheVariants as place
use Rattle.jimple_tree.specs.declared.tree.Rhs.{Rhs}
use Rattle.jimple_tree.specs.declared.tree.Rhs.TheVariants as rhs
use Rattle.jimple_tree.specs.declared.tree.Stmt.{Stmt}
use Rattle.jimple_tree.specs.declared.tree.Stmt.TheVariants as stmt
use Rattle.source_sink.specs.declared.line.Line.{Line}
use Rattle.access_path.specs.declared.view.CallView.{CallView}
use Rattle.access_path.specs.declared.view.View.{View}
use Rattle.access_path.specs.declared.view.View.TheVariants as views
use Rattle.call_graph.specs.Calls.{call_in, call_of}
use Rattle.statement_views.specs.Views.{IsAssignment, IsCallView, IsRead, IsView, IsViewOfCall, copied}

same_call : (a b : CallView) → views.Call a ≡ views.Call b → a ≡ b
same_call a b same = cc

module _ (cs : List Class) (lines : List Line) (f : FieldId) (at : StmtId) where
  -- the call that is seen so
  abbrev pub IsSeenOf : Option Invoke → CallView → Type 0
  IsSeenOf found call = (invoke : Invoke) × (found ≡ Some invoke) × ((to : Option LocalId) × IsCallView cs lines at to invoke call)

  seen : (to : Option LocalId) (invoke : Invoke) (own call : CallView)
      → IsCallView cs lines at to invoke own → views.Call call ≡ views.Call own → IsSeenOf (Some invoke) call
  seen to invoke own call is same = (invoke, refl, (to, subst (IsCallView cs lines at to invoke) (sym (same_call call own same)) is))

  copied_no_call : (to : LocalId) (value : Imm) (call : CallView) → views.Call call ≡ copied to value → ⊥
  copied_no_call to (imm.Local x) call same = cc
  copied_no_call to (imm.Literal text) call same = cc

  read_seen : (to : LocalId) (value : Rhs) (call : CallView) → IsRead cs lines f at to value (views.Call call) → IsSeenOf (call_of value) call
  read_seen to (rhs.Call invoke) call is = seen (Some to) invoke is.0 call is.1 is.2
  read_seen to (rhs.Use value) call is = absurd (copied_no_call to value call is)
  read_seen to (rhs.Cast type value) call is = absurd (copied_no_call to value call is)
  read_seen to (rhs.Load base sig) call is = absurd (cc)
  read_seen to (rhs.StaticLoad sig) call is = absurd (cc)
  read_seen to (rhs.Element base index) call is = absurd (cc)
  read_seen to (rhs.New class) call is = absurd (cc)
  read_seen to (rhs.NewArray type len) call is = absurd (cc)
  read_seen to (rhs.NewMulti type lens bare) call is = absurd (cc)
  read_seen to (rhs.InstanceOf value type) call is = absurd (cc)
  read_seen to (rhs.Length value) call is = absurd (cc)
  read_seen to (rhs.Neg value) call is = absurd (cc)
  read_seen to (rhs.Binary op left right) call is = absurd (cc)

  assigned_seen : (to : Place) (value : Rhs) (call : CallView) → IsAssignment cs lines f at to value (views.Call call) → IsSeenOf (call_of value) call
  assigned_seen (place.Local to) value call is = read_seen to value call is
  assigned_seen (place.Field base sig) value call is = absurd (cc)
  assigned_seen (place.Static sig) value call is = absurd (cc)
  assigned_seen (place.Element base index) value call is = absurd (cc)

  pub call_seen : (s : Stmt) (call : CallView) → IsView cs lines f at s (views.Call call) → IsSeenOf (call_in s) call
  call_seen (stmt.Call invoke) call is = seen None invoke is.0 call is.1 is.2
  call_seen (stmt.Assign to value) call is = assigned_seen to value call is
  call_seen (stmt.Identity local what) call is = absurd (cc)
  call_seen (stmt.If left cond right target) call is = absurd (cc)
  call_seen (stmt.Goto target) call is = absurd (cc)
  call_seen (stmt.Switch table key cases default) call is = absurd (cc)
  call_seen (stmt.Return value) call is = absurd (cc)
  call_seen (stmt.Throw value) call is = absurd (cc)
  call_seen stmt.Nop call is = absurd (cc)
  call_seen (stmt.Enter value) call is = absurd (cc)
  call_seen (stmt.Exit value) call is = absurd (cc)

  -- and a call is seen as one: a well formed statement puts what it gives into a local, or leaves it
  abbrev pub IsSeenAs : Invoke → View → Type 0
  IsSeenAs invoke view = (call : CallView) × (view ≡ views.Call call) × ((to : Option LocalId) × IsCallView cs lines at to invoke call)

  seen_as : (to : Option LocalId) (own invoke : Invoke) (view : View)
      → Some own ≡ Some invoke → IsViewOfCall cs lines at to own view → IsSeenAs invoke view
  seen_as to own invoke view found (call, is, same) =
      (call, same, (to, subst (λ (i : Invoke). IsCallView cs lines at to i call) (same_Some own invoke found) is))

  read_call : (to : LocalId) (value : Rhs) (invoke : Invoke) (view : View)
      → call_of value ≡ Some invoke → IsRead cs lines f at to value view → IsSeenAs invoke view
  read_call to (rhs.Call own) invoke view found is = seen_as (Some to) own invoke view found is
  read_call to (rhs.Use value) invoke view found is = absurd (none-some invoke found)
  read_call to (rhs.Cast type value) invoke view found is = absurd (none-some invoke found)
  read_call to (rhs.Load base sig) invoke view found is = absurd (none-some invoke found)
  read_call to (rhs.StaticLoad sig) invoke view found is = absurd (none-some invoke found)
  read_call to (rhs.Element base index) invoke view found is = absurd (none-some invoke found)
  read_call to (rhs.New class) invoke view found is = absurd (none-some invoke found)
  read_call to (rhs.NewArray type len) invoke view found is = absurd (none-some invoke found)
  read_call to (rhs.NewMulti type lens bare) invoke view found is = absurd (none-some invoke found)
  read_call to (rhs.InstanceOf value type) invoke view found is = absurd (none-some invoke found)
  read_call to (rhs.Length value) invoke view found is = absurd (none-some invoke found)
  read_call to (rhs.Neg value) invoke view found is = absurd (none-some invoke found)
  read_call to (rhs.Binary op left right) invoke view found is = absurd (none-some invoke found)

  use_calls_none : (value : Rhs) (invoke : Invoke) → IsUse value → call_of value ≡ Some invoke → ⊥
  use_calls_none (rhs.Use value) invoke used found = none-some invoke found
  use_calls_none (rhs.Call own) invoke used found = used
  use_calls_none (rhs.Cast type value) invoke used found = used
  use_calls_none (rhs.Load base sig) invoke used found = used
  use_calls_none (rhs.StaticLoad sig) invoke used found = used
  use_calls_none (rhs.Element base index) invoke used found = used
  use_calls_none (rhs.New class) invoke used found = used
  use_calls_none (rhs.NewArray type len) invoke used found = used
  use_calls_none (rhs.NewMulti type lens bare) invoke used found = used
  use_calls_none (rhs.InstanceOf value type) invoke used found = used
  use_calls_none (rhs.Length value) invoke used found = used
  use_calls_none (rhs.Neg value) invoke used found = used
  use_calls_none (rhs.Binary op left right) invoke used found = used

  assigned_call : (to : Place) (value : Rhs) (invoke : Invoke) (view : View)
      → PlaceTakes to value → call_of value ≡ Some invoke → IsAssignment cs lines f at to value view → IsSeenAs invoke view
  assigned_call (place.Local to) value invoke view takes found is = read_call to value invoke view found is
  assigned_call (place.Field base sig) value invoke view takes found is = absurd (use_calls_none value invoke takes found)
  assigned_call (place.Static sig) value invoke view takes found is = absurd (use_calls_none value invoke takes found)
  assigned_call (place.Element base index) value invoke view takes found is = absurd (use_calls_none value invoke takes found)

  pub call_is_seen : (b : Body) (s : Stmt) (invoke : Invoke) (view : View)
      → StmtFits b s → call_in s ≡ Some invoke → IsView cs lines f at s view → IsSeenAs invoke view
  call_is_seen b (stmt.Call own) invoke view fits found is = seen_as None own invoke view found is
  call_is_seen b (stmt.Assign to value) invoke view fits found is = assigned_call to value invoke view fits.2 found is
  call_is_seen b (stmt.Identity local what) invoke view fits found is = absurd (none-some invoke found)
  call_is_seen b (stmt.If left cond right target) invoke view fits found is = absurd (none-some invoke found)
  call_is_seen b (stmt.Goto target) invoke view fits found is = absurd (none-some invoke found)
  call_is_seen b (stmt.Switch table key cases default) invoke view fits found is = absurd (none-some invoke found)
  call_is_seen b (stmt.Return value) invoke view fits found is = absurd (none-some invoke found)
  call_is_seen b (stmt.Throw value) invoke view fits found is = absurd (none-some invoke found)
  call_is_seen b stmt.Nop invoke view fits found is = absurd (none-some invoke found)
  call_is_seen b (stmt.Enter value) invoke view fits found is = absurd (none-some invoke found)
  call_is_seen b (stmt.Exit value) invoke view fits found is = absurd (none-some invoke found)

-- the call of a statement that fits the body does

read_fits : (b : Body) (value : Rhs) (invoke : Invoke) → RhsFits b value → call_of value ≡ Some invoke → InvokeFits b invoke
read_fits b (rhs.Call own) invoke fits found = subst (InvokeFits b) (same_Some own invoke found) fits
read_fits b (rhs.Use value) invoke fits found = absurd (none-some invoke found)
read_fits b (rhs.Cast type value) invoke fits found = absurd (none-some invoke found)
read_fits b (rhs.Load base sig) invoke fits found = absurd (none-some invoke found)
read_fits b (rhs.StaticLoad sig) invoke fits found = absurd (none-some invoke found)
read_fits b (rhs.Element base index) invoke fits found = absurd (none-some invoke found)
read_fits b (rhs.New class) invoke fits found = absurd (none-some invoke found)
read_fits b (rhs.NewArray type len) invoke fits found = absurd (none-some invoke found)
read_fits b (rhs.NewMulti type lens bare) invoke fits found = absurd (none-some invoke found)
read_fits b (rhs.InstanceOf value type) invoke fits found = absurd (none-some invoke found)
read_fits b (rhs.Length value) invoke fits found = absurd (none-some invoke found)
read_fits b (rhs.Neg value) invoke fits found = absurd (none-some invoke found)
read_fits b (rhs.Binary op left right) invoke fits found = absurd (none-some invoke found)

pub call_fits : (b : Body) (s : Stmt) (invoke : Invoke) → StmtFits b s → call_in s ≡ Some invoke → InvokeFits b invoke
call_fits b (stmt.Call own) invoke fits found = subst (InvokeFits b) (same_Some own invoke found) fits
call_fits b (stmt.Assign to value) invoke fits found = read_fits b value invoke fits.1 found
call_fits b (stmt.Identity local what) invoke fits found = absurd (none-some invoke found)
call_fits b (stmt.If left cond right target) invoke fits found = absurd (none-some invoke found)
call_fits b (stmt.Goto target) invoke fits found = absurd (none-some invoke found)
call_fits b (stmt.Switch table key cases default) invoke fits found = absurd (none-some invoke found)
call_fits b (stmt.Return value) invoke fits found = absurd (none-some invoke found)
call_fits b (stmt.Throw value) invoke fits found = absurd (none-some invoke found)
call_fits b stmt.Nop invoke fits found = absurd (none-some invoke found)
call_fits b (stmt.Enter value) invoke fits found = absurd (none-some invoke found)
call_fits b (stmt.Exit value) invoke fits found = absurd (none-some invoke found)
