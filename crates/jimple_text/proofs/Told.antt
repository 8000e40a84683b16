-- The tokens of a text have classes or one fault.
use Rattle.std.proofs.Common.{◌≡◌, ℕ, zero, suc, List, ◌++◌, length, map, Option, Some, None, Err, refl, sym, ◌∙◌, ap, subst, inl, inr}
use Rattle.std.proofs.lemmas.List.{append_cancel_right}
use Rattle.clean_base.specs.declared.fault.Form.{Form}
use Rattle.clean_base.specs.declared.fault.Form.TheVariants as forms
use Rattle.clean_base.specs.declared.fault.InputFault.{InputFault}
use Rattle.clean_base.specs.declared.fault.InputFault.TheVariants.{Syntax, Unsupported, TooMany}
use Rattle.jimple_lex.specs.declared.token.Token.{Token}
use Rattle.jimple_tree.specs.declared.tree.Class.{Class}
use Rattle.jimple_grammar.specs.declared.lexeme.Lexeme.{Lexeme}
use Rattle.jimple_grammar.specs.declared.raw.RawClass.{RawClass}
use Rattle.jimple_grammar.specs.Forms.{file}
use Rattle.jimple_grammar.specs.Grammar.{Spells}
use Rattle.jimple_grammar.specs.Lexemes.{lexemes}
use Rattle.jimple_grammar.specs.Stops.{StopsAt, IsSettled}
use Rattle.jimple_names.specs.declared.stop.NameFault.{NameFault}
use Rattle.jimple_names.specs.declared.stop.NameFault.TheVariants as names
use Rattle.jimple_names.specs.declared.stop.NameStop.{NameStop}
use Rattle.jimple_names.specs.declared.stop.NameStop.TheVariants as name_stops
use Rattle.jimple_names.specs.Named.{Named}
use Rattle.jimple_names.specs.Faults.{names_fault}
use Rattle.jimple_names.specs.Tree.{class_of}
use Rattle.jimple_text.specs.Reads.{place, form_in_front, last_place, IsNameFault, Faults, syntax, unsupported, too_many, double_name, unknown_local, unknown_label}
use Rattle.jimple_text.specs.Settled.{AreGiven, AreRefused, Stopped, TokensRefused, as_input, as_stop}

module _ (number : ℕ) (bytes : List ℕ) (tokens : List Token) where
  -- the fault of tokens that stop so
  abbrev pub fault_of : List Lexeme → List Lexeme → ℕ → InputFault
  fault_of front left zero = Syntax number (place bytes left)
  fault_of front left (suc zero) = Unsupported number (place bytes left) (form_in_front left)
  fault_of front left (suc (suc zero)) = TooMany number (place bytes left)
  fault_of front left (suc (suc (suc why))) = Unsupported number (last_place front) forms.MethodConst

  module _ (settled : IsSettled file (lexemes bytes tokens)) where
    module _ (left : List Lexeme) (why : ℕ) (stop : StopsAt file (lexemes bytes tokens) left why) where
      only_stop : (l : List Lexeme) (w : ℕ) (s : StopsAt file (lexemes bytes tokens) l w) → fault_of s.front l w ≡ fault_of stop.front left why
      only_stop l w s =
          let same = settled.one l left w why s stop in
          let fronts : s.front ≡ stop.front = append_cancel_right s.front stop.front l (sym s.parts ∙ stop.parts ∙ ap (λ (m : List Lexeme). stop.front ++ m) (sym same.0)) in
          rw (fronts, same.0, same.1) refl

      not_named : (g : NameFault) → IsNameFault bytes tokens g → ⊥
      not_named g h = settled.apart h.0 left why h.1 stop

      only_fault : {g : InputFault} → Faults bytes tokens number g → g ≡ fault_of stop.front left why
      only_fault (syntax h) = rw h.2 refl ∙ only_stop h.0 0 h.1
      only_fault (unsupported (inl h)) = rw (h.2, h.3) refl ∙ only_stop h.0 1 h.1
      only_fault (unsupported (inr h)) = rw (h.2, h.3) refl ∙ only_stop h.0 3 h.1
      only_fault (too_many h) = rw h.2 refl ∙ only_stop h.0 2 h.1
      only_fault (double_name h) = absurd (not_named _ h)
      only_fault (unknown_local h) = absurd (not_named _ h)
      only_fault (unknown_label h) = absurd (not_named _ h)

      pub refused : (f : InputFault) → Faults bytes tokens number f → AreRefused number bytes tokens f
      refused f h = record {
        is = h;
        only = λ g k. only_fault k ∙ sym (only_fault h);
        no_classes = λ classes gives. settled.apart gives.tree left why gives.spelled stop;
      }

    -- where the reader of tokens stops, and what is told of the place
    abbrev pub Placed : ℕ → (List Lexeme → List Lexeme → Type 0) → Type 0
    Placed count Told_of = (front rest : List Lexeme) → lexemes bytes tokens ≡ front ++ rest → count ≡ length rest → Told_of front rest

    pub syntax_refused : (count at : ℕ) → Stopped bytes tokens 0 count → Placed count (λ front rest. at ≡ place bytes rest) → AreRefused number bytes tokens (Syntax number at)
    syntax_refused count at (left, stop, count_is) placed = refused left 0 stop (Syntax number at) (syntax (left, stop, placed stop.front left stop.parts count_is))

    pub too_many_refused : (count at : ℕ) → Stopped bytes tokens 2 count → Placed count (λ front rest. at ≡ place bytes rest) → AreRefused number bytes tokens (TooMany number at)
    too_many_refused count at (left, stop, count_is) placed = refused left 2 stop (TooMany number at) (too_many (left, stop, placed stop.front left stop.parts count_is))

    pub word_refused : (count at : ℕ) (form : Form) → Stopped bytes tokens 1 count → Placed count (λ front rest. at ≡ place bytes rest) → Placed count (λ front rest. form ≡ form_in_front rest) → AreRefused number bytes tokens (Unsupported number at form)
    word_refused count at form (left, stop, count_is) placed formed =
        refused left 1 stop (Unsupported number at form) (unsupported (inl (left, stop, placed stop.front left stop.parts count_is, formed stop.front left stop.parts count_is)))

    pub before_refused : (count at : ℕ) → Stopped bytes tokens 3 count → Placed count (λ front rest. at ≡ last_place front) → AreRefused number bytes tokens (Unsupported number at forms.MethodConst)
    before_refused count at (left, stop, count_is) placed =
        refused left 3 stop (Unsupported number at forms.MethodConst) (unsupported (inr (left, stop, placed stop.front left stop.parts count_is, refl)))

    module _ (tree : List RawClass) (spelled : Spells file (lexemes bytes tokens) tree) (one : (t : List RawClass) → Spells file (lexemes bytes tokens) t → t ≡ tree) where
      no_stop : (l : List Lexeme) (w : ℕ) → StopsAt file (lexemes bytes tokens) l w → ⊥
      no_stop l w s = settled.apart tree l w spelled s

      named_so : (g : NameFault) → IsNameFault bytes tokens g → names_fault bytes tree ≡ Some g
      named_so g h = subst (λ (t : List RawClass). names_fault bytes t ≡ Some g) (one h.0 h.1) h.2

      -- each fault is one of names
      named_fault : {g : InputFault} → Faults bytes tokens number g → (f : NameFault) × (names_fault bytes tree ≡ Some f) × (g ≡ as_input number f)
      named_fault (syntax h) = absurd (no_stop h.0 0 h.1)
      named_fault (unsupported (inl h)) = absurd (no_stop h.0 1 h.1)
      named_fault (unsupported (inr h)) = absurd (no_stop h.0 3 h.1)
      named_fault (too_many h) = absurd (no_stop h.0 2 h.1)
      named_fault (double_name h) = (_, named_so _ h, refl)
      named_fault (unknown_local h) = (_, named_so _ h, refl)
      named_fault (unknown_label h) = (_, named_so _ h, refl)

      none_and_some : (f : NameFault) → names_fault bytes tree ≡ None → names_fault bytes tree ≡ Some f → ⊥
      none_and_some f e h = let bad : ◌≡◌ {A = Option NameFault} None (Some f) = sym e ∙ h in cc

      pub given : (classes : List Class) → names_fault bytes tree ≡ None → classes ≡ map (class_of bytes) tree → AreGiven number bytes tokens classes
      given classes named are = record {
        gives = record { tree = tree; spelled = spelled; named = named; are = are };
        only = λ others gives. gives.are ∙ ap (map (class_of bytes)) (one gives.tree gives.spelled) ∙ sym are;
        no_fault = λ f h. let n = named_fault h in none_and_some n.0 named n.1;
      }

      is_fault : (f : NameFault) → names_fault bytes tree ≡ Some f → Faults bytes tokens number (as_input number f)
      is_fault (names.DoubleName at) e = double_name (tree, spelled, e)
      is_fault (names.UnknownLocal at) e = unknown_local (tree, spelled, e)
      is_fault (names.UnknownLabel at) e = unknown_label (tree, spelled, e)

      misnamed : (f : NameFault) → names_fault bytes tree ≡ Some f → AreRefused number bytes tokens (as_input number f)
      misnamed f e = record {
        is = is_fault f e;
        only = λ g h. let n = named_fault h in let same : n.0 ≡ f = let both : Some n.0 ≡ Some f = sym n.1 ∙ e in cc in n.2 ∙ ap (as_input number) same;
        no_classes = λ classes gives. none_and_some f (subst (λ (t : List RawClass). names_fault bytes t ≡ None) (one gives.tree gives.spelled) gives.named) e;
      }

      pub misnamed_by : {T : Type 0} (view : T → List Class) (stop : NameStop) → Named {X = T} view (Err stop) (map (class_of bytes) tree) (names_fault bytes tree) → TokensRefused number bytes tokens (as_stop number stop)
      misnamed_by view (name_stops.Fault f) h = misnamed f h
      misnamed_by view name_stops.OutOfMemory h = tt
