-- Bodies, members, classes and files have the spellings and the beginnings of their productions.
use Rattle.std.proofs.Common.{◌⊎◌, List, refl, inl, inr}
use Rattle.jimple_grammar.specs.declared.lexeme.Lexeme.{Lexeme}
use Rattle.jimple_grammar.specs.Grammar.{Look, Grammar, either, plain, ManySpells, last, more, ManyBegins, piece, end, later, Spells, Begins}
use Rattle.jimple_grammar.specs.Forms.{block, body, method_rest, behind_head, body_or_none, member_type, head, member, members, heading, class, file}
use Rattle.jimple_grammar.specs.AsWritten.{Same, body_as_written, body_or_none_as_written, member_ty_as_written, head_as_written, field_as_written, method_as_written, member_as_written, members_as_written, class_as_written, file_as_written}
use Rattle.jimple_grammar.proofs.Within.{Within, Alike, same, no_change, turned, ◌then◌, choice, one_of, left_of, right_of, itself, row, chain, repeated, many_in}
use Rattle.jimple_grammar.proofs.Apart.{behind_apart, left_apart, and_part, alone, quiet, grouped}
use Rattle.jimple_grammar.proofs.AsWrittenStatements.{code_is}

body_is : Alike body body_as_written
unfolding body block body_as_written
body_is = row (row no_change (repeated (λ s. no_change) (row code_is no_change))) no_change

body_or_none_is : Alike body_or_none body_or_none_as_written
unfolding body_or_none
body_or_none_is = choice no_change (row no_change body_is)

-- modifiers, a type and a name
head_is : Alike head head_as_written
unfolding head member_type head_as_written member_ty_as_written
head_is = repeated (λ s. no_change) (choice (grouped (λ x y z. refl)) (row no_change (grouped (λ x y z. refl)) then grouped (λ x y z. refl)) then turned left_apart)

pub member_is : Alike member member_as_written
unfolding member behind_head method_rest member_as_written field_as_written method_as_written
member_is = chain head_is (λ h. no_change) then behind_apart
    then choice (chain no_change (λ h. quiet) then and_part alone) (and_part (and_part (and_part (and_part (and_part alone)))) then row no_change body_or_none_is)

pub member_same : Same member member_as_written
member_same = same member_is

members_are : Alike members members_as_written
unfolding members members_as_written
members_are = row no_change (repeated (λ s. member_is) no_change)

-- The choices behind any number of one form apart.
module _ {A B C : Type 0} (f : List A → B → C) (look : Look) (a : Grammar A) (b c : Grammar B) where
  abbrev P : Unit {0} → List Lexeme → A → Type 0
  P s = Spells a

  abbrev on : Unit {0} → A → Unit {0}
  on s x = s

  end_spells : {s : Unit {0}} {ts : List Lexeme} {v : List A × B} → ManySpells P on (Spells (either b c)) s ts v → ManySpells P on (Spells b) s ts v ⊎ ManySpells P on (Spells c) s ts v
  end_spells (last y h e) = elim h [ inl p ↦ inl (last y p e) | inr q ↦ inr (last y q e) ]
  end_spells (more x z front rest parts h m e) = elim (end_spells m) [
    | inl p ↦ inl (more x z front rest parts h p e)
    | inr q ↦ inr (more x z front rest parts h q e)
  ]

  abbrev F : Unit {0} → List Lexeme → Type 0
  F s = Begins a

  end_begins : {s : Unit {0}} {ts : List Lexeme} → ManyBegins P on F (Begins (either b c)) s ts → ManyBegins P on F (Begins b) s ts ⊎ ManyBegins P on F (Begins c) s ts
  end_begins (piece h) = inl (piece h)
  end_begins (end h) = elim h [ inl p ↦ inl (end p) | inr q ↦ inr (end q) ]
  end_begins (later x front rest parts h m) = elim (end_begins m) [
    | inl p ↦ inl (later x front rest parts h p)
    | inr q ↦ inr (later x front rest parts h q)
  ]

  ends_apart : Within (plain f look a (either b c)) (either (plain f look a b) (plain f look a c))
  ends_apart = record {
    spells = λ ts v h. elim (end_spells h.1) [ inl p ↦ inl (h.0, p, h.2) | inr q ↦ inr (h.0, q, h.2) ];
    begins = λ ts h. end_begins h;
  }

pub end_apart : {A B C : Type 0} {f : List A → B → C} {look : Look} {a : Grammar A} {b c : Grammar B} → Alike (plain f look a (either b c)) (either (plain f look a b) (plain f look a c))
end_apart {f} {look} {a} {b} {c} = (ends_apart f look a b c, one_of (into (left_of itself)) (into (right_of itself))) where
  into : {d : Grammar _} → Within d (either b c) → Within (plain f look a d) (plain f look a (either b c))
  into w = many_in f look (λ s x. s) tt (λ s. itself) w

pub class_is : Alike class class_as_written
unfolding class heading class_as_written
class_is = repeated (λ s. no_change) (row no_change members_are then left_apart) then end_apart

pub file_is : Alike file file_as_written
unfolding file file_as_written
file_is = repeated (λ s. class_is) no_change

pub file_same : Same file file_as_written
file_same = same file_is
