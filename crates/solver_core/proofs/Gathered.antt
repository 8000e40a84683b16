-- Lists that gather sets, one item and one set after another.
use Rattle.std.specs.Prelude.{◌≡◌, ◌≤◌, ◌<◌, ℕ, ◌+◌, Bool, true, false, List, [], ◌∷◌, ◌++◌, length, take, Contains, Result, Ok, Err, OnOk}
use Rattle.std.proofs.Common.{arith, sym, ◌∙◌, ap, subst, inl, inr, refl, get_or}
use Rattle.std.proofs.lemmas.List.{take_more, take_all}
use Rattle.std.proofs.lemmas.List.Elements.{Contains-append_left, Contains-push, Contains-push_cases}
use Rattle.solver_core.specs.Gathered.{Gathers, IsOfEach}
use Rattle.entry_tables.proofs.Listed.{distinct_added}
use Rattle.ifds_model.specs.State.{IsDistinct}
use Rattle.ifds_model.proofs.Members.{any_default}

pub on_ok : {X E : Type 0} (r : Result X E) (A B : Type 0) → (A → B) → OnOk r A → OnOk r B
on_ok (Ok x) A B f a = f a
on_ok (Err e) A B f a = tt

module _ {X : Type 0} where
  pub gathers_as : (s t : X → Type 0) (a b : List X) → ((x : X) → s x → t x) → ((x : X) → t x → s x) → Gathers s a b → Gathers t a b
  gathers_as s t a b there back g = record {
    distinct = g.distinct;
    kept = g.kept;
    there = λ x is. g.there x (back x is);
    from = λ x has. elim (g.from x has) [ inl was ↦ inl was | inr is ↦ inr (there x is) ];
  }

  -- a set without members asks for nothing
  pub gathers_none : (s : X → Type 0) (a : List X) → ((x : X) → s x → ⊥) → Gathers s a a
  gathers_none s a none = record {
    distinct = λ d. d;
    kept = λ x has. has;
    there = λ x is. absurd (none x is);
    from = λ x has. inl has;
  }

  pub gathers_one : (a b : List X) (x : X) (new : Bool) → (new ≡ true → Contains a x → ⊥) → (new ≡ true → b ≡ a ++ x ∷ []) → (new ≡ false → Contains a x) → (new ≡ false → b ≡ a) → Gathers (λ y. y ≡ x) a b
  gathers_one a b x true fresh added was same = record {
    distinct = λ d. distinct_added a b x true d fresh added same;
    kept = λ y has. subst (λ (zs : List X). Contains zs y) (sym (added refl)) (Contains-append_left a (x ∷ []) y has);
    there = λ y is. subst (λ (zs : List X). Contains zs y) (sym (added refl)) (subst (λ (z : X). Contains (a ++ x ∷ []) z) (sym is) (Contains-push a x));
    from = λ y has. elim (Contains-push_cases a x y (subst (λ (zs : List X). Contains zs y) (added refl) has)) [ inl old ↦ inl old | inr is ↦ inr (sym is) ];
  }
  gathers_one a b x false fresh added was same = record {
    distinct = λ d. subst IsDistinct (sym (same refl)) d;
    kept = λ y has. subst (λ (zs : List X). Contains zs y) (sym (same refl)) has;
    there = λ y is. subst (λ (zs : List X). Contains zs y) (sym (same refl)) (subst (λ (z : X). Contains a z) (sym is) (was refl));
    from = λ y has. inl (subst (λ (zs : List X). Contains zs y) (same refl) has);
  }

module _ {X Y : Type 0} (set : Y → X → Type 0) where
  pub gathers_push : (ys : List Y) (y : Y) (a b c : List X) → Gathers (IsOfEach set ys) a b → Gathers (set y) b c → Gathers (IsOfEach set (ys ++ y ∷ [])) a c
  gathers_push ys y a b c first then = record {
    distinct = λ d. then.distinct (first.distinct d);
    kept = λ x has. then.kept x (first.kept x has);
    there = λ x is. elim (Contains-push_cases ys y is.0 is.1) [
      | inl early ↦ then.kept x (first.there x (is.0, early, is.2))
      | inr last ↦ then.there x (subst (λ (z : Y). set z x) (sym last) is.2)
    ];
    from = λ x has. elim (then.from x has) [
      | inl before ↦ elim (first.from x before) [
        | inl was ↦ inl was
        | inr is ↦ inr (is.0, Contains-append_left ys (y ∷ []) is.0 is.1, is.2)
      ]
      | inr is ↦ inr (y, Contains-push ys y, is)
    ];
  }

  -- one more of them
  pub gathers_more : (ys : List Y) (i : ℕ) (y : Y) (a b c : List X) → i < length ys → y ≡ get_or ys i y → Gathers (IsOfEach set (take i ys)) a b → Gathers (set y) b c → Gathers (IsOfEach set (take (i + 1) ys)) a c
  gathers_more ys i y a b c below is first then =
      let one_more : take (i + 1) ys ≡ take i ys ++ y ∷ [] = take_more ys i y below ∙ ap (λ (z : Y). take i ys ++ z ∷ []) (sym is) in
      subst (λ (zs : List Y). Gathers (IsOfEach set zs) a c) (sym one_more) (gathers_push (take i ys) y a b c first then)

  pub gathers_begun : (a : List X) → Gathers (IsOfEach set []) a a
  gathers_begun a = gathers_none (IsOfEach set []) a (λ x is. omega (arith, is.1.1))

  pub gathers_whole : (ys : List Y) (i : ℕ) (a b : List X) → length ys ≤ i → Gathers (IsOfEach set (take i ys)) a b → Gathers (IsOfEach set ys) a b
  gathers_whole ys i a b long g = subst (λ (zs : List Y). Gathers (IsOfEach set zs) a b) (take_all i ys long) g

  -- one more of them, read by its place
  pub gathers_at : (ys : List Y) (i : ℕ) (d : Y) (a b c : List X) → i < length ys → Gathers (IsOfEach set (take i ys)) a b → Gathers (set (get_or ys i d)) b c → Gathers (IsOfEach set (take (i + 1) ys)) a c
  gathers_at ys i d a b c below first then = gathers_more ys i (get_or ys i d) a b c below (any_default ys i d (get_or ys i d) below) first then
