-- A statement is seen in one way.
use Rattle.std.proofs.Common.{◌≡◌, ◌↔◌, ℕ, Bool, true, false, IsTrue, List, Option, Some, None, refl, sym, ap, ◌∙◌}
use Rattle.clean_base.specs.declared.ids.FieldId.{FieldId}
use Rattle.clean_base.specs.declared.ids.LocalId.{LocalId}
use Rattle.clean_base.specs.declared.ids.StmtId.{StmtId}
use Rattle.jimple_tree.specs.declared.tree.Class.{Class}
use Rattle.jimple_tree.specs.declared.tree.FieldSig.{FieldSig}
use Rattle.jimple_tree.specs.declared.tree.Invoke.{Invoke}
use Rattle.jimple_tree.specs.declared.tree.Place.{Place}
use Rattle.jimple_tree.specs.declared.tree.Place.TheVariants as place
use Rattle.jimple_tree.specs.declared.tree.Rhs.{Rhs}
use Rattle.jimple_tree.specs.declared.tree.Rhs.TheVariants as rhs
use Rattle.jimple_tree.specs.declared.tree.Stmt.{Stmt}
use Rattle.jimple_tree.specs.declared.tree.Stmt.TheVariants as stmt
use Rattle.source_sink.specs.declared.line.Line.{Line}
use Rattle.access_path.specs.declared.view.CallView.{CallView}
use Rattle.access_path.specs.declared.view.View.{View}
use Rattle.access_path.specs.declared.view.View.TheVariants as views
use Rattle.field_table.specs.Numbers.{HaveOneNumber}
use Rattle.statement_views.specs.Seen.{Sees, assign_ref, read_ref, ref_of}
use Rattle.statement_views.specs.Views.{IsAssignment, IsCallView, IsRead, IsView, IsViewOfCall, stored}

same_flag : (a b : Bool) (P : Type 0) → IsTrue a ↔ P → IsTrue b ↔ P → a ≡ b
same_flag true true P one two = refl
same_flag false false P one two = refl
same_flag true false P one two = absurd (let no = two.1 (one.0 refl) in cc)
same_flag false true P one two = absurd (let no = one.1 (two.0 refl) in cc)

abbrev call_view : StmtId → Option LocalId → Option LocalId → List (Option LocalId) → Bool → Bool → Bool → CallView
call_view at result receiver args source sink is_open = record {
  stmt = at;
  result = result;
  receiver = receiver;
  args = args;
  source = source;
  sink = sink;
  is_open = is_open;
}

same_call : (a b : CallView) → a.stmt ≡ b.stmt → a.result ≡ b.result → a.receiver ≡ b.receiver → a.args ≡ b.args → a.source ≡ b.source → a.sink ≡ b.sink → a.is_open ≡ b.is_open → a ≡ b
same_call a b s r v g o k p =
    ap (λ x. call_view x a.result a.receiver a.args a.source a.sink a.is_open) s
    ∙ ap (λ x. call_view b.stmt x a.receiver a.args a.source a.sink a.is_open) r
    ∙ ap (λ x. call_view b.stmt b.result x a.args a.source a.sink a.is_open) v
    ∙ ap (λ x. call_view b.stmt b.result b.receiver x a.source a.sink a.is_open) g
    ∙ ap (λ x. call_view b.stmt b.result b.receiver b.args x a.sink a.is_open) o
    ∙ ap (λ x. call_view b.stmt b.result b.receiver b.args b.source x a.is_open) k
    ∙ ap (λ x. call_view b.stmt b.result b.receiver b.args b.source b.sink x) p

module _ (cs : List Class) (lines : List Line) (at : StmtId) where
  one_call : (to : Option LocalId) (invoke : Invoke) (a b : CallView) → IsCallView cs lines at to invoke a → IsCallView cs lines at to invoke b → a ≡ b
  one_call to invoke a b one two =
      same_call a b (one.stands ∙ sym two.stands) (one.gives ∙ sym two.gives) (one.on ∙ sym two.on) (one.takes ∙ sym two.takes)
      (same_flag a.source b.source _ one.source_says two.source_says) (same_flag a.sink b.sink _ one.sink_says two.sink_says) (same_flag a.is_open b.is_open _ one.opens two.opens)

  one_of_call : (to : Option LocalId) (invoke : Invoke) (v w : View) → IsViewOfCall cs lines at to invoke v → IsViewOfCall cs lines at to invoke w → v ≡ w
  one_of_call to invoke v w (a, one, is) (b, two, also) = is ∙ ap views.Call (one_call to invoke a b one two) ∙ sym also

  module _ (f g : FieldId) where
    one_read : (to : LocalId) (value : Rhs) (v w : View) → ((sig : FieldSig) → read_ref value ≡ Some sig → f ≡ g) → IsRead cs lines f at to value v → IsRead cs lines g at to value w → v ≡ w
    one_read to (rhs.Use value) v w same one two = one ∙ sym two
    one_read to (rhs.Cast type value) v w same one two = one ∙ sym two
    one_read to (rhs.Load base sig) v w same one two = one ∙ ap (λ (h : FieldId). views.Load to base h) (same sig refl) ∙ sym two
    one_read to (rhs.StaticLoad sig) v w same one two = one ∙ ap (λ (h : FieldId). static h) (same sig refl) ∙ sym two where
      static : FieldId → View
      static h = views.Copy to (Rattle.access_path.specs.declared.fact.Base.TheVariants.Static h)
    one_read to (rhs.Element base index) v w same one two = one ∙ sym two
    one_read to (rhs.New class) v w same one two = one ∙ sym two
    one_read to (rhs.NewArray type len) v w same one two = one ∙ sym two
    one_read to (rhs.NewMulti type lens bare) v w same one two = one ∙ sym two
    one_read to (rhs.InstanceOf value type) v w same one two = one ∙ sym two
    one_read to (rhs.Length value) v w same one two = one ∙ sym two
    one_read to (rhs.Neg value) v w same one two = one ∙ sym two
    one_read to (rhs.Binary op left right) v w same one two = one ∙ sym two
    one_read to (rhs.Call invoke) v w same one two = one_of_call (Some to) invoke v w one two

    one_assigned : (to : Place) (value : Rhs) (v w : View) → ((sig : FieldSig) → assign_ref to value ≡ Some sig → f ≡ g) → IsAssignment cs lines f at to value v → IsAssignment cs lines g at to value w → v ≡ w
    one_assigned (place.Local to) value v w same one two = one_read to value v w same one two
    one_assigned (place.Field base sig) value v w same one two = one ∙ ap (λ (h : FieldId). views.Store base h (stored value)) (same sig refl) ∙ sym two
    one_assigned (place.Static sig) value v w same one two = one ∙ ap (λ (h : FieldId). views.StaticStore h (stored value)) (same sig refl) ∙ sym two
    one_assigned (place.Element base index) value v w same one two = one ∙ sym two

    one_view : (s : Stmt) (v w : View) → ((sig : FieldSig) → ref_of s ≡ Some sig → f ≡ g) → IsView cs lines f at s v → IsView cs lines g at s w → v ≡ w
    one_view (stmt.Identity to what) v w same one two = one ∙ sym two
    one_view (stmt.Assign to value) v w same one two = one_assigned to value v w same one two
    one_view (stmt.Call invoke) v w same one two = one_of_call None invoke v w one two
    one_view (stmt.If left cond right target) v w same one two = one ∙ sym two
    one_view (stmt.Goto target) v w same one two = one ∙ sym two
    one_view (stmt.Switch table key cases default) v w same one two = one ∙ sym two
    one_view (stmt.Return value) v w same one two = one ∙ sym two
    one_view (stmt.Throw value) v w same one two = one ∙ sym two
    one_view stmt.Nop v w same one two = one ∙ sym two
    one_view (stmt.Enter value) v w same one two = one ∙ sym two
    one_view (stmt.Exit value) v w same one two = one ∙ sym two

pub one_seen : (cs : List Class) (lines : List Line) → HaveOneNumber cs → (s : ℕ) (stmt : Stmt) (v w : View) → Sees cs lines s stmt v → Sees cs lines s stmt w → v ≡ w
one_seen cs lines numbered s stmt v w (f, refers, one) (g, also, two) =
    one_view cs lines (record { 0 = s }) f g stmt v w (λ sig is. numbered sig f g (refers sig is) (also sig is)) one two
