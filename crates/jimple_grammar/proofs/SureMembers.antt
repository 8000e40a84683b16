-- The choices of fields, methods, classes and files show by the tokens in front.
use Rattle.std.proofs.Common.{◌≡◌, ℕ, zero, suc, pred, Bool, true, false, List, [], ◌∷◌, ◌++◌, refl, rules, sym, ◌∙◌, ap}
use mathlib.Core.Bool.{◌&&◌}
use Rattle.jimple_words.specs.declared.kind.Kind.TheVariants as kinds
use Rattle.jimple_words.specs.declared.kind.Kind.{Kind}
use Rattle.jimple_grammar.specs.declared.lexeme.Lexeme.{Lexeme}
use Rattle.jimple_grammar.specs.declared.raw.RawHead.{RawHead}
use Rattle.jimple_words.specs.Kind.{Kinds, has}
use Rattle.jimple_words.specs.Sets.{types, modifiers}
use Rattle.jimple_grammar.specs.Grammar.{Grammar, both, ends}
use Rattle.jimple_grammar.specs.Reading.{sees, may_be_empty, first}
use Rattle.jimple_grammar.specs.Forms.{sign, ty, body, param_slot, next_param, later_params, heading_params, throws, body_or_none, modifier, member_type, head, method_rest, behind_head, member, implements, extends_one, extends_several, class_heading, interface_heading, heading, before_member, members, heading_members, classed, class, file}
use Rattle.jimple_grammar.proofs.Starts.{disjoint, next, not_both}
use Rattle.jimple_grammar.proofs.Sure.{Sure, Tells, plain_sure, one_tells}
use Rattle.jimple_grammar.proofs.Opens.{subset, in_subset}
use Rattle.jimple_grammar.proofs.SureOperands.{comma, open_bracket, close_paren, sure_names, sure_ty}
use Rattle.jimple_grammar.proofs.SureBodies.{close_brace}
use Rattle.jimple_grammar.proofs.SureDeclarations.{sure_body}
use Rattle.jimple_grammar.proofs.Modifiers.{sure_head}

sure_param_slot : (room : ℕ) (after : Kinds) → disjoint open_bracket after ≡ true → Sure (param_slot room) after
sure_param_slot zero after d = tt
sure_param_slot (suc room) after d = sure_ty after d

sure_next_param : (room : ℕ) → Sure (next_param room) (comma ++ close_paren)
sure_next_param room = (tt, sure_param_slot room (comma ++ close_paren) refl)

sure_later_params : Sure later_params close_paren
unfolding later_params
sure_later_params = ((λ n. sure_next_param n), (λ n. refl), (λ n. refl), tt, one_tells next_param (λ n x. pred n) ends comma close_paren (λ n. sure_next_param n) (λ n. refl) (λ n. refl) tt refl)

sure_heading_params : Sure heading_params close_paren
unfolding heading_params ty later_params
sure_heading_params = ((sure_ty (comma ++ close_paren) refl, sure_later_params), tt, refl, refl)

-- what stands behind the parameters of a method, and the names of its `throws`
abbrev bodies : Kinds
bodies = kinds.Semicolon ∷ kinds.OpenBrace ∷ []

abbrev open_brace : Kinds
open_brace = kinds.OpenBrace ∷ []

sure_throws : Sure throws bodies
unfolding throws
sure_throws = ((tt, sure_names bodies refl), tt, refl, refl)

sure_body_or_none : (after : Kinds) → Sure body_or_none after
unfolding body_or_none body
sure_body_or_none after = ((tt, tt), (tt, sure_body after), refl, refl)

sure_method_rest : (h : RawHead) (after : Kinds) → Sure (method_rest h) after
unfolding method_rest body_or_none body
sure_method_rest h after = search (sure_heading_params, sure_throws, sure_body_or_none)

sure_behind_head : (h : RawHead) (after : Kinds) → Sure (behind_head h) after
unfolding behind_head method_rest
sure_behind_head h after = ((tt, tt), sure_method_rest h after, refl, refl)

head_some : may_be_empty head ≡ false
unfolding head member_type
head_some = refl

sure_member : (after : Kinds) → Sure member after
unfolding member
sure_member after = (sure_head [], (λ h. (sure_head (next (behind_head h) after), sure_behind_head h after)), head_some)

-- The same kinds in another order tell the same.
same_bool : (b c : Bool) → (b ≡ true → c ≡ true) → (c ≡ true → b ≡ true) → b ≡ c
same_bool true true f g = refl
same_bool true false f g = absurd (not_both false (f refl) refl)
same_bool false true f g = absurd (not_both false (g refl) refl)
same_bool false false f g = refl

module _ (ks ms : Kinds) (there : subset ks ms ≡ true) (back : subset ms ks ≡ true) where
  same_kinds : (k : Kind) → has ks k ≡ has ms k
  same_kinds k = same_bool (has ks k) (has ms k) (λ h. in_subset ks ms k there h) (λ h. in_subset ms ks k back h)

  same_sees : (ts : List Lexeme) → sees (ks ∷ []) ts ≡ sees (ms ∷ []) ts
  same_sees [] = refl
  same_sees (t ∷ ts) = ap (λ (b : Bool). b && true) (same_kinds t.kind)

  same_tells : {S A B : Type 0} (a : S → Grammar A) (step : S → A → S) (b : Grammar B) (after : Kinds) → Tells ((ks ∷ []) ∷ []) a step b after → Tells ((ms ∷ []) ∷ []) a step b after
  same_tells a step b after tells = record {
    none = refl;
    seen = λ n s ts p l lit e h. tells.seen n s ts p l (same_sees ts ∙ lit) e h;
    unseen = λ n s ts p l dark e h. tells.unseen n s ts p l (same_sees ts ∙ dark) e h;
    at_piece = λ s p rest z h f. sym (same_sees (p ++ rest)) ∙ tells.at_piece s p rest z h f;
    at_end = λ p rest y h f. sym (same_sees (p ++ rest)) ∙ tells.at_end p rest y h f;
  }

member_some : may_be_empty member ≡ false
unfolding member head member_type
member_some = refl

members_tell : (after : Kinds) → Tells {S = Unit {0}} before_member (λ s. member) (λ s x. s) (sign kinds.CloseBrace) after
unfolding member head member_type
members_tell after = same_tells (first member) (modifiers ++ types) refl refl {S = Unit {0}} (λ s. member) (λ s x. s) (sign kinds.CloseBrace) after
    (one_tells {S = Unit {0}} (λ s. member) (λ s x. s) (sign kinds.CloseBrace) (first member) after (λ s. sure_member (first member ++ close_brace)) (λ s. refl) (λ s. refl) tt refl)

sure_members : (after : Kinds) → Sure members after
unfolding members
sure_members after = (tt, ((λ s. sure_member (first member ++ close_brace)), (λ s. refl), (λ s. member_some), tt, members_tell after))

-- Classes.
sure_implements : Sure implements open_brace
unfolding implements
sure_implements = ((tt, sure_names open_brace refl), tt, refl, refl)

abbrev interfaces : Kinds
interfaces = kinds.Implements ∷ open_brace

sure_extends_one : Sure extends_one interfaces
unfolding extends_one
sure_extends_one = search rules

sure_extends_several : Sure extends_several interfaces
unfolding extends_several
sure_extends_several = ((tt, sure_names interfaces refl), tt, refl, refl)

sure_class_heading : Sure class_heading open_brace
unfolding class_heading implements
sure_class_heading = search (sure_extends_one, sure_implements)

sure_interface_heading : Sure interface_heading open_brace
unfolding interface_heading implements
sure_interface_heading = search (sure_extends_several, sure_implements)

sure_heading : Sure heading open_brace
unfolding heading class_heading interface_heading
sure_heading = (sure_class_heading, sure_interface_heading, refl, refl)

sure_class : (after : Kinds) → Sure class after
unfolding class heading class_heading interface_heading members
sure_class after = plain_sure classed modifier (both heading_members heading members) after tt (sure_heading, sure_members after) refl refl

pub sure_file : Sure file []
unfolding file class heading class_heading interface_heading
sure_file = plain_sure (λ xs end. xs) class ends [] (sure_class (first class)) tt refl refl
