-- The methods of a table as they are printed.
use Rattle.std.proofs.Common.{◌≡◌, ◌≤◌, ℕ, List, [], length, map, sym, ◌∙◌, ap, arith}
use Rattle.std.proofs.lemmas.List.{get_or-map, get_or_past, get_or_read, length-map}
use Rattle.clean_base.specs.Lists.{At}
use Rattle.clean_base.specs.declared.ids.ClassId.{ClassId}
use Rattle.clean_base.specs.declared.ids.MethodId.{MethodId}
use Rattle.jimple_tree.specs.Printed.{method_text}
use Rattle.jimple_tree.specs.declared.tree.Class.{Class}
use Rattle.jimple_tree.specs.declared.tree.Method.{Method}
use Rattle.class_table.specs.Hierarchy.{class_names}
use Rattle.class_table.specs.Links.{name_at}
use Rattle.class_table.specs.Methods.{all_methods, IsNumber}
use Rattle.leak_report.specs.Printed.{method_text_at}

abbrev own_text : Class × Method → List ℕ
own_text own = method_text own.0.name own.1

module _ (cs : List Class) (m : MethodId) where
  -- no method has the number
  pub no_text : length (all_methods cs) ≤ m.0 → method_text_at cs m ≡ []
  unfolding method_text_at
  no_text past = get_or_past (map own_text (all_methods cs)) m.0 [] (omega (arith, past, length-map (all_methods cs) own_text))

  text_of : (c : Class) (k : Method) → IsNumber cs m c k → method_text_at cs m ≡ method_text c.name k
  unfolding method_text_at
  text_of c k is = get_or-map own_text (all_methods cs) m.0 (c, k) [] is.0 ∙ ap own_text is.1

  -- the method that has it, with the name of its class
  pub own_text_of : (owner : ClassId) (name : List ℕ) (k : Method) → (c : Class) × (n : Method) × IsNumber cs m c n × At (class_names cs) owner.0 c.name
      → name ≡ name_at cs owner.0 → (c : Class) × IsNumber cs m c k → method_text name k ≡ method_text_at cs m
  own_text_of owner name k own is of =
      let same : (of.0, k) ≡ (own.0, own.1) = get_or_read (all_methods cs) m.0 (of.0, k) of.1.0 (sym of.1.1) (own.0, own.1) ∙ own.2.1 in
      let named : name ≡ own.0.name = is ∙ sym (get_or_read (class_names cs) owner.0 own.0.name own.3.0 (sym own.3.1) []) in
      let method : k ≡ own.1 = ap (λ (x : Class × Method). x.1) same in
      (λ i. method_text (named i) (method i)) ∙ sym (text_of own.0 own.1 own.2)
