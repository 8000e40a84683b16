-- A whole file: its classes, or the place where it stops.
use Rattle.std.proofs.Common.{◌≡◌, ℕ, ◌==◌, true, false, List, [], ◌∷◌, length, All, Contains, Result, Ok, Err, IfOk, sym, ◌∙◌, ap, subst, arith}
use Rattle.std.proofs.lemmas.List.{nil_from_length}
use Rattle.std.proofs.lemmas.List.Elements.{All-contains_itself}
use Rattle.std.proofs.lemmas.Bool.{eqb-true}
use Rattle.jimple_grammar.specs.declared.lexeme.Lexeme.{Lexeme}
use Rattle.jimple_grammar.specs.declared.raw.RawClass.{RawClass}
use Rattle.jimple_grammar.specs.declared.cursor.ParseStop.{ParseStop}
use Rattle.jimple_grammar.specs.declared.cursor.ParseStop.TheVariants as stops
use Rattle.jimple_grammar.specs.Reading.{reading}
use Rattle.jimple_grammar.specs.Gives.{Fails}
use Rattle.jimple_grammar.specs.Stops.{Told}
use Rattle.jimple_grammar.specs.Forms.{file}
use Rattle.jimple_grammar.specs.Fits.{ClassFits}
use Rattle.jimple_grammar.proofs.SureMembers.{sure_file}
use Rattle.jimple_grammar.proofs.Whole.{told_ok, told_err, stops_behind}
use Rattle.jimple_grammar.proofs.FitsMembers.{file_fits}

pub file_read : (ts us left : List Lexeme) (v : List RawClass) → us ≡ ts → reading file us ≡ Ok (v, left) → (length left == 0) ≡ true → Told file ts (Ok v)
file_read ts us left v same e end =
    let n : left ≡ [] = nil_from_length left (eqb-true (length left) 0 end) in
    told_ok file sure_file ts v (ap (reading file) (sym same) ∙ e ∙ ap (λ (l : List Lexeme). Ok (v, l)) n)

pub file_behind : (ts us left : List Lexeme) (v : List RawClass) (count : ℕ) → us ≡ ts → reading file us ≡ Ok (v, left) → (length left == 0) ≡ false → count ≡ length left → Told {A = List RawClass} file ts (Err (stops.Syntax count))
file_behind ts us [] v at same e off p = absurd (let bad : true ≡ false = off in cc)
file_behind ts us (t ∷ left) v at same e off p = (t ∷ left, stops_behind file sure_file ts v t left (ap (reading file) (sym same) ∙ e), p)

pub file_stopped : (ts us : List Lexeme) (e : ParseStop) → us ≡ ts → Fails e (reading file us) → Told {A = List RawClass} file ts (Err e)
file_stopped ts us e same h = told_err file sure_file ts e (subst (λ (vs : List Lexeme). Fails e (reading file vs)) same h)

-- what is told of a file says too that its classes fit
pub told_fits : (ts : List Lexeme) (n : ℕ) (r : Result (List RawClass) ParseStop) → length ts ≡ n → Told file ts r → IfOk r (λ cs. All (ClassFits (Contains ts) n) cs)
told_fits ts n (Ok cs) e h = file_fits (Contains ts) n ts cs (All-contains_itself ts) (omega arith) h.found
told_fits ts n (Err stop) e h = tt
