-- A class in which no fault is found is well formed, and so is each of a list of them.
use Rattle.std.proofs.Common.{◌≡◌, ℕ, ◌≤◌, List, length, map, All, Contains, None, Result, Ok, Err, IfOk, sym, subst}
use Rattle.std.proofs.lemmas.List.{length-map}
use Rattle.jimple_tree.specs.WellFormed.{IsWellFormed}
use Rattle.jimple_lex.specs.declared.token.Token.{Token}
use Rattle.jimple_grammar.specs.Lexemes.{lexemes}
use Rattle.jimple_grammar.specs.Fits.{ClassFits}
use Rattle.jimple_grammar.specs.declared.raw.RawClass.{RawClass}
use Rattle.jimple_tree.specs.declared.tree.Class.{Class}
use Rattle.jimple_names.specs.declared.stop.NameStop.{NameStop}
use Rattle.jimple_names.specs.Named.{Named}
use Rattle.jimple_names.specs.Resolving.{Given}
use Rattle.jimple_names.specs.Texts.{name_of}
use Rattle.jimple_names.specs.Tree.{class_of}
use Rattle.jimple_names.specs.Faults.{class_fault, names_fault}
use Rattle.jimple_names.proofs.WellFormedParts.{each_none}
use Rattle.jimple_names.proofs.WellFormedMembers.{fields_differ, methods_differ, methods_fit}

pub well_formed : (bytes : List ℕ) (ts : List Token) (n : ℕ) (c : RawClass) → ClassFits (Contains (lexemes bytes ts)) n c → class_fault bytes c ≡ None → IsWellFormed (class_of bytes c)
well_formed bytes ts n c h e = record {
  superclass = λ is. subst (λ m. m ≤ 1) (sym (length-map c.heading.extends (name_of bytes))) (h.heading.superclass is);
  fields = fields_differ bytes c.members e;
  methods = methods_differ bytes c.members e;
  each_method = methods_fit bytes ts n c.members h.members e;
}

pub all_well_formed : (bytes : List ℕ) (ts : List Token) (n : ℕ) (cs : List RawClass) → names_fault bytes cs ≡ None → All (ClassFits (Contains (lexemes bytes ts)) n) cs → All IsWellFormed (map (class_of bytes) cs)
all_well_formed bytes ts n cs e h = each_none (class_of bytes) (class_fault bytes) (ClassFits (Contains (lexemes bytes ts)) n) IsWellFormed (well_formed bytes ts n) cs h e

-- what the pass gives where it has no fault
pub formed_result : (bytes : List ℕ) (cs : List RawClass) → Given bytes (λ P n. All (ClassFits P n) cs) → {T : Type 0} (items : T → List Class) (r : Result T NameStop)
    → Named {X = T} items r (map (class_of bytes) cs) (names_fault bytes cs) → IfOk r (λ t. All IsWellFormed (items t))
formed_result bytes cs fits items (Ok t) named = subst (All IsWellFormed) (sym named.1) (all_well_formed bytes fits.0 (length fits.0) cs named.0 fits.2)
formed_result bytes cs fits items (Err stop) named = tt
