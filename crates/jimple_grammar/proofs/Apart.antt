-- What several productions share in front may be taken out of them, and put back: the laws by which forms are factored.
use Rattle.std.proofs.Common.{◌≡◌, List, [], ◌++◌, sym, ◌∙◌, ap, subst, refl, inl, inr, append_assoc, append-nil}
use Rattle.jimple_grammar.specs.declared.lexeme.Lexeme.{Lexeme}
use Rattle.jimple_grammar.specs.Grammar.{Grammar, nothing, both, either, given, Spells, Begins}
use Rattle.jimple_grammar.proofs.Starts.{laws}
use Rattle.jimple_grammar.proofs.Within.{Within, Alike, one_of, left_of, right_of, no_change, row, ◌then◌}

-- the right sides of a given form apart
given_apart : {A B C : Type 0} (f : A → B → C) (a : Grammar A) (b c : A → Grammar B) → Within (given f a (λ x. either (b x) (c x))) (either (given f a b) (given f a c))
given_apart f a b c = record {
  spells = λ ts v h. elim h.6 [
    | inl p ↦ inl (h.0, h.1, h.2, h.3, h.4, h.5, p, h.7)
    | inr q ↦ inr (h.0, h.1, h.2, h.3, h.4, h.5, q, h.7)
  ];
  begins = λ ts h. elim h [
    | inl p ↦ inl (inl p)
    | inr q ↦ elim q.5 [
      | inl l ↦ inl (inr (q.0, q.1, q.2, q.3, q.4, l))
      | inr r ↦ inr (inr (q.0, q.1, q.2, q.3, q.4, r))
    ]
  ];
}

pub behind_apart : {A B C : Type 0} {f : A → B → C} {a : Grammar A} {b c : A → Grammar B} → Alike (given f a (λ x. either (b x) (c x))) (either (given f a b) (given f a c))
behind_apart {f} {a} {b} {c} = (given_apart f a b c, one_of (chain_in (λ x. left_of (no_change {a = b x}).0)) (chain_in (λ x. right_of (no_change {a = c x}).0))) where
  chain_in : {d : _ → Grammar _} → ((x : _) → Within (d x) (either (b x) (c x))) → Within (given f a d) (given f a (λ x. either (b x) (c x)))
  chain_in w = record {
    spells = λ ts v h. (h.0, h.1, h.2, h.3, h.4, h.5, (w h.0).spells h.3 h.1 h.6, h.7);
    begins = λ ts h. elim h [ inl p ↦ inl p | inr q ↦ inr (q.0, q.1, q.2, q.3, q.4, (w q.0).begins q.2 q.5) ];
  }

-- the choices in front of a given form apart
front_parts : {A B C : Type 0} (f : A → B → C) (a b : Grammar A) (c : A → Grammar B) → Within (given f (either a b) c) (either (given f a c) (given f b c))
front_parts f a b c = record {
  spells = λ ts v h. elim h.5 [
    | inl p ↦ inl (h.0, h.1, h.2, h.3, h.4, p, h.6, h.7)
    | inr q ↦ inr (h.0, h.1, h.2, h.3, h.4, q, h.6, h.7)
  ];
  begins = λ ts h. elim h [
    | inl (inl p) ↦ inl (inl p)
    | inl (inr p) ↦ inr (inl p)
    | inr q ↦ elim q.4 [
      | inl l ↦ inl (inr (q.0, q.1, q.2, q.3, l, q.5))
      | inr r ↦ inr (inr (q.0, q.1, q.2, q.3, r, q.5))
    ]
  ];
}

pub front_apart : {A B C : Type 0} {f : A → B → C} {a b : Grammar A} {c : A → Grammar B} → Alike (given f (either a b) c) (either (given f a c) (given f b c))
front_apart {f} {a} {b} {c} = (front_parts f a b c, one_of (of (left_of (no_change {a = a}).0)) (of (right_of (no_change {a = b}).0))) where
  of : {d : Grammar _} → Within d (either a b) → Within (given f d c) (given f (either a b) c)
  of w = record {
    spells = λ ts v h. (h.0, h.1, h.2, h.3, h.4, w.spells h.2 h.0 h.5, h.6, h.7);
    begins = λ ts h. elim h [ inl p ↦ inl (w.begins ts p) | inr q ↦ inr (q.0, q.1, q.2, q.3, w.spells q.1 q.0 q.4, q.5) ];
  }

-- two parts are a part that is given, and one that doesn't look at it
pub plainly : {A B C : Type 0} {f : A → B → C} {a : Grammar A} {b : Grammar B} → Alike (both f a b) (given f a (λ x. b))
plainly = (record { spells = λ ts v h. h; begins = λ ts h. h }, record { spells = λ ts v h. h; begins = λ ts h. h })

pub left_apart : {A B C : Type 0} {f : A → B → C} {a b : Grammar A} {c : Grammar B} → Alike (both f (either a b) c) (either (both f a c) (both f b c))
left_apart {f} {a} {b} {c} = let p = front_apart {f = f} {a = a} {b = b} {c = λ x. c} in (record { spells = p.0.spells; begins = p.0.begins }, record { spells = p.1.spells; begins = p.1.begins })

pub right_apart : {A B C : Type 0} {f : A → B → C} {a : Grammar A} {b c : Grammar B} → Alike (both f a (either b c)) (either (both f a b) (both f a c))
right_apart {f} {a} {b} {c} = let p = behind_apart {f = f} {a = a} {b = λ x. b} {c = λ x. c} in (record { spells = p.0.spells; begins = p.0.begins }, record { spells = p.1.spells; begins = p.1.begins })

-- A part behind both, out of what is given.
module _ {A B C D : Type 0} (a : Grammar A) (h : B → C → D) (b : A → Grammar B) (c : Grammar C) where
  outward : Within (given (λ x r. r) a (λ x. both h (b x) c)) (both h (given (λ x r. r) a b) c)
  outward = record {
    spells = λ ts v k. let m = k.6 in (m.0, m.1, k.2 ++ m.2, m.3, k.4 ∙ ap (λ (us : List Lexeme). k.2 ++ us) m.4 ∙ sym (append_assoc k.2 m.2 m.3), (k.0, m.0, k.2, m.2, refl, k.5, m.5, refl), m.6, k.7 ∙ m.7);
    begins = λ ts k. elim k [
      | inl p ↦ inl (inl p)
      | inr q ↦ elim q.5 [
        | inl l ↦ inl (inr (q.0, q.1, q.2, q.3, q.4, l))
        | inr r ↦ inr (r.0, q.1 ++ r.1, r.2, q.3 ∙ ap (λ (us : List Lexeme). q.1 ++ us) r.3 ∙ sym (append_assoc q.1 r.1 r.2), (q.0, r.0, q.1, r.1, refl, q.4, r.4, refl), r.5)
      ]
    ];
  }

  inward : Within (both h (given (λ x r. r) a b) c) (given (λ x r. r) a (λ x. both h (b x) c))
  inward = record {
    spells = λ ts v k. let m = k.5 in (m.0, h k.0 k.1, m.2, m.3 ++ k.3, k.4 ∙ ap (λ (us : List Lexeme). us ++ k.3) m.4 ∙ append_assoc m.2 m.3 k.3, m.5, (m.1, k.1, m.3, k.3, refl, m.6, k.6, ap (λ (w : B). h w k.1) m.7), k.7);
    begins = λ ts k. elim k [
      | inl (inl p) ↦ inl p
      | inl (inr q) ↦ inr (q.0, q.1, q.2, q.3, q.4, inl q.5)
      | inr r ↦ let m = r.4 in inr (m.0, m.2, m.3 ++ r.2, r.3 ∙ ap (λ (us : List Lexeme). us ++ r.2) m.4 ∙ append_assoc m.2 m.3 r.2, m.5, inr (m.1, m.3, r.2, refl, m.6, r.5))
    ];
  }

-- from the form before, one part more
pub and_part : {A B C D : Type 0} {a : Grammar A} {h : B → C → D} {b : A → Grammar B} {c : Grammar C} {d : Grammar B} → Alike (given (λ x r. r) a b) d → Alike (given (λ x r. r) a (λ x. both h (b x) c)) (both h d c)
and_part {a} {h} {b} {c} w = (outward a h b c, inward a h b c) then row w no_change

-- Parts may be grouped from the right or from the left.
pub grouped : {A B C D E X : Type 0} {f : A → D → E} {g : B → C → D} {h : X → C → E} {k : A → B → X} {a : Grammar A} {b : Grammar B} {c : Grammar C}
    → ((x : A) (y : B) (z : C) → f x (g y z) ≡ h (k x y) z) → Alike (both f a (both g b c)) (both h (both k a b) c)
grouped {D} {X} {f} {g} {h} {k} w = (
  record {
    spells = λ ts v t. let m = t.6 in (k t.0 m.0, m.1, t.2 ++ m.2, m.3, t.4 ∙ ap (λ (us : List Lexeme). t.2 ++ us) m.4 ∙ sym (append_assoc t.2 m.2 m.3), (t.0, m.0, t.2, m.2, refl, t.5, m.5, refl), m.6, t.7 ∙ ap (λ (y : D). f t.0 y) m.7 ∙ w t.0 m.0 m.1);
    begins = λ ts t. elim t [
      | inl p ↦ inl (inl p)
      | inr q ↦ elim q.5 [
        | inl l ↦ inl (inr (q.0, q.1, q.2, q.3, q.4, l))
        | inr r ↦ inr (k q.0 r.0, q.1 ++ r.1, r.2, q.3 ∙ ap (λ (us : List Lexeme). q.1 ++ us) r.3 ∙ sym (append_assoc q.1 r.1 r.2), (q.0, r.0, q.1, r.1, refl, q.4, r.4, refl), r.5)
      ]
    ];
  },
  record {
    spells = λ ts v t. let m = t.5 in (m.0, g m.1 t.1, m.2, m.3 ++ t.3, t.4 ∙ ap (λ (us : List Lexeme). us ++ t.3) m.4 ∙ append_assoc m.2 m.3 t.3, m.5, (m.1, t.1, m.3, t.3, refl, m.6, t.6, refl), t.7 ∙ ap (λ (x : X). h x t.1) m.7 ∙ sym (w m.0 m.1 t.1));
    begins = λ ts t. elim t [
      | inl (inl p) ↦ inl p
      | inl (inr q) ↦ inr (q.0, q.1, q.2, q.3, q.4, inl q.5)
      | inr r ↦ let m = r.4 in inr (m.0, m.2, m.3 ++ r.2, r.3 ∙ ap (λ (us : List Lexeme). us ++ r.2) m.4 ∙ append_assoc m.2 m.3 r.2, m.5, inr (m.1, m.3, r.2, refl, m.6, r.5))
    ];
  },
)

-- nothing behind a form is what the form gives
pub alone : {A B : Type 0} {a : Grammar A} {k : A → B} → Alike (given (λ x r. r) a (λ x. nothing (k x))) (both (λ f x. f x) (nothing k) a)
alone {A} {B} {a} {k} = (
  record {
    spells = λ ts v h. (k, h.0, [], h.2, h.4 ∙ ap (λ (us : List Lexeme). h.2 ++ us) h.6.0 ∙ append-nil h.2, (refl, refl), h.5, h.7 ∙ h.6.1);
    begins = λ ts h. elim h [
      | inl p ↦ inr (k, [], ts, refl, (refl, refl), p)
      | inr q ↦ inr (k, [], q.1, q.3 ∙ ap (λ (us : List Lexeme). q.1 ++ us) q.5 ∙ append-nil q.1, (refl, refl), (laws 0 a).begun q.1 q.0 q.4)
    ];
  },
  record {
    spells = λ ts v h. (h.1, k h.1, h.3, [], h.4 ∙ ap (λ (us : List Lexeme). us ++ h.3) h.5.0 ∙ sym (append-nil h.3), h.6, (refl, refl), h.7 ∙ ap (λ (g : A → B). g h.1) h.5.1);
    begins = λ ts h. elim h [
      | inl p ↦ inl (subst (λ (us : List Lexeme). Begins a us) (sym p) (laws 0 a).empty)
      | inr q ↦ inl (subst (λ (us : List Lexeme). Begins a us) (sym (q.3 ∙ ap (λ (us : List Lexeme). us ++ q.2) q.4.0)) q.5)
    ];
  },
)

-- a tree that doesn't look at the part behind it
pub quiet : {A B : Type 0} {a : Grammar A} {w : B} → Alike (both (λ (f : A → B) (x : A). f x) (nothing (λ (x : A). w)) a) (both (λ (x : B) (y : A). x) (nothing w) a)
quiet {A} {B} {a} {w} = (
  record {
    spells = λ ts v h. (w, h.1, h.2, h.3, h.4, (h.5.0, refl), h.6, h.7 ∙ ap (λ (g : A → B). g h.1) h.5.1);
    begins = λ ts h. elim h [ inl p ↦ inl p | inr q ↦ inr (w, q.1, q.2, q.3, (q.4.0, refl), q.5) ];
  },
  record {
    spells = λ ts v h. ((λ x. w), h.1, h.2, h.3, h.4, (h.5.0, refl), h.6, h.7 ∙ h.5.1);
    begins = λ ts h. elim h [ inl p ↦ inl p | inr q ↦ inr ((λ x. w), q.1, q.2, q.3, (q.4.0, refl), q.5) ];
  },
)

-- what stands behind a changed tree
pub changed : {A B C : Type 0} {a : Grammar A} {k : A → B} {b : B → Grammar C} → Alike (given (λ x r. r) (both (λ f x. f x) (nothing k) a) b) (given (λ x r. r) a (λ x. b (k x)))
changed {A} {B} {C} {a} {k} {b} = (
  record {
    spells = λ ts v h. let m = h.5 in (m.1, h.1, m.3, h.3, h.4 ∙ ap (λ (us : List Lexeme). us ++ h.3) (m.4 ∙ ap (λ (us : List Lexeme). us ++ m.3) m.5.0), m.6, subst (λ (y : B). Spells (b y) h.3 h.1) (m.7 ∙ ap (λ (g : A → B). g m.1) m.5.1) h.6, h.7);
    begins = λ ts h. elim h [
      | inl (inl p) ↦ inl (subst (λ (us : List Lexeme). Begins a us) (sym p) (laws 0 a).empty)
      | inl (inr q) ↦ inl (subst (λ (us : List Lexeme). Begins a us) (sym (q.3 ∙ ap (λ (us : List Lexeme). us ++ q.2) q.4.0)) q.5)
      | inr r ↦ let m = r.4 in inr (m.1, m.3, r.2, r.3 ∙ ap (λ (us : List Lexeme). us ++ r.2) (m.4 ∙ ap (λ (us : List Lexeme). us ++ m.3) m.5.0), m.6, subst (λ (y : B). Begins (b y) r.2) (m.7 ∙ ap (λ (g : A → B). g m.1) m.5.1) r.5)
    ];
  },
  record {
    spells = λ ts v h. (k h.0, h.1, h.2, h.3, h.4, (k, h.0, [], h.2, refl, (refl, refl), h.5, refl), h.6, h.7);
    begins = λ ts h. elim h [
      | inl p ↦ inl (inr (k, [], ts, refl, (refl, refl), p))
      | inr q ↦ inr (k q.0, q.1, q.2, q.3, (k, q.0, [], q.1, refl, (refl, refl), q.4, refl), q.5)
    ];
  },
)

-- the tree of what is given, changed before or after
pub changed_behind : {A B C : Type 0} {a : Grammar A} {k : B → C} {b : A → Grammar B} → Alike (given (λ x r. r) a (λ x. both (λ f y. f y) (nothing k) (b x))) (both (λ f y. f y) (nothing k) (given (λ x r. r) a b))
changed_behind {A} {B} {C} {a} {k} {b} = (
  record {
    spells = λ ts v h. let m = h.6 in (k, m.1, [], ts, refl, (refl, refl), (h.0, m.1, h.2, m.3, h.4 ∙ ap (λ (us : List Lexeme). h.2 ++ us) (m.4 ∙ ap (λ (us : List Lexeme). us ++ m.3) m.5.0), h.5, m.6, refl), h.7 ∙ m.7 ∙ ap (λ (g : B → C). g m.1) m.5.1);
    begins = λ ts h. elim h [
      | inl p ↦ inr (k, [], ts, refl, (refl, refl), inl p)
      | inr q ↦ elim q.5 [
        | inl n ↦ inr (k, [], ts, refl, (refl, refl), inr (q.0, q.1, q.2, q.3, q.4, subst (λ (us : List Lexeme). Begins (b q.0) us) (sym n) (laws 0 (b q.0)).empty))
        | inr m ↦ inr (k, [], ts, refl, (refl, refl), inr (q.0, q.1, m.2, q.3 ∙ ap (λ (us : List Lexeme). q.1 ++ us) (m.3 ∙ ap (λ (us : List Lexeme). us ++ m.2) m.4.0), q.4, m.5))
      ]
    ];
  },
  record {
    spells = λ ts v h. let m = h.6 in (m.0, k m.1, m.2, m.3, h.4 ∙ ap (λ (us : List Lexeme). us ++ h.3) h.5.0 ∙ m.4, m.5, (k, m.1, [], m.3, refl, (refl, refl), m.6, refl), h.7 ∙ ap (λ (g : B → C). g h.1) h.5.1 ∙ ap k m.7);
    begins = λ ts h. elim h [
      | inl p ↦ inl (subst (λ (us : List Lexeme). Begins a us) (sym p) (laws 0 a).empty)
      | inr q ↦ let e : ts ≡ q.2 = q.3 ∙ ap (λ (us : List Lexeme). us ++ q.2) q.4.0 in elim q.5 [
        | inl p ↦ inl (subst (λ (us : List Lexeme). Begins a us) (sym e) p)
        | inr m ↦ inr (m.0, m.1, m.2, e ∙ m.3, m.4, inr (k, [], m.2, refl, (refl, refl), m.5))
      ]
    ];
  },
)
