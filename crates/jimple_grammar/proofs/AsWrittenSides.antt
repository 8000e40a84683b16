-- Right sides have the spellings and the beginnings of their productions.
use Rattle.jimple_grammar.specs.declared.raw.RawImm.TheVariants as imms
use Rattle.jimple_grammar.specs.Grammar.{Grammar, nothing, either, given, ◌<*>◌}
use Rattle.jimple_grammar.specs.Forms.{name, constant, behind_operand, behind_local, behind_handle, cast, new_array, later_lengths, new_multi, local_rhs, handle_rhs, constant_rhs, length_of, negated, called, rhs}
use Rattle.jimple_grammar.specs.AsWritten.{Same, imm_as_written, use_as_written, binary_as_written, instance_as_written, length_as_written, negated_as_written, cast_as_written, load_as_written, load_element_as_written, new_array_as_written, new_multi_as_written, called_as_written, rhs_as_written}
use Rattle.jimple_grammar.proofs.Within.{Within, Alike, same, no_change, turned, ◌then◌, choice, one_of, front_in, rest_in, itself, without_refused, row, chain, repeated}
use Rattle.jimple_grammar.proofs.Apart.{behind_apart, front_apart, and_part, alone, changed}
use Rattle.jimple_grammar.proofs.AsWrittenOperands.{choices, names_are, imm_is, call_is, element_is}

-- what begins with an operand
operand_is : Alike (given (λ x r. r) imm_as_written behind_operand) (either instance_as_written (either binary_as_written use_as_written))
unfolding behind_operand instance_as_written binary_as_written use_as_written
operand_is = behind_apart then choice (and_part (and_part alone)) (behind_apart then choice (and_part (and_part alone) then row no_change imm_is) alone)

-- what begins with a local
named_is : Alike (either local_rhs handle_rhs) (given (λ x r. r) name behind_local)
unfolding local_rhs handle_rhs behind_handle
named_is = choice no_change (chain no_change (λ x. without_refused)) then turned front_apart then chain (turned names_are) (λ x. no_change)

local_is : Alike (given (λ x r. r) name behind_local) (either load_as_written (either load_element_as_written (given (λ x r. r) (nothing imms.Local <*> name) behind_operand)))
unfolding behind_local load_as_written load_element_as_written
local_is = behind_apart then choice (and_part (and_part alone)) (behind_apart then choice (and_part alone then row no_change element_is) (turned changed))

constant_is : Alike (either (given (λ x r. r) (nothing imms.Local <*> name) behind_operand) constant_rhs) (given (λ x r. r) imm_as_written behind_operand)
unfolding constant_rhs imm_as_written constant
constant_is = turned front_apart

fronts_are : Alike (either (either local_rhs handle_rhs) constant_rhs) (either load_as_written (either load_element_as_written (either instance_as_written (either binary_as_written use_as_written))))
fronts_are = choice (named_is then local_is) no_change then choices then choice no_change (choices then choice no_change (constant_is then operand_is))

cast_is : Alike cast cast_as_written
unfolding cast cast_as_written
cast_is = row no_change imm_is

new_array_is : Alike new_array new_array_as_written
unfolding new_array new_array_as_written
new_array_is = row no_change element_is

new_multi_is : Alike new_multi new_multi_as_written
unfolding new_multi new_multi_as_written later_lengths
new_multi_is = row (row no_change element_is) (repeated (λ s. element_is) no_change)

length_is : Alike length_of length_as_written
unfolding length_of length_as_written
length_is = row no_change imm_is

negated_is : Alike negated negated_as_written
unfolding negated negated_as_written
negated_is = row no_change imm_is

called_is : Alike called called_as_written
unfolding called called_as_written
called_is = row no_change call_is

module _ {A : Type 0} (l e i b u c s n a m k g d : Grammar A) where
  abbrev As_factored : Grammar A
  As_factored = either (either l (either e (either i (either b u)))) (either c (either s (either n (either a (either m (either k (either g d)))))))

  abbrev As_listed : Grammar A
  As_listed = either u (either b (either i (either k (either g (either c (either l (either e (either s (either n (either a (either m d)))))))))))

  listed : Within As_factored As_listed
  listed =
      let b_on = rest_in (itself {a = As_listed}) in
      let i_on = rest_in b_on in
      let k_on = rest_in i_on in
      let g_on = rest_in k_on in
      let c_on = rest_in g_on in
      let l_on = rest_in c_on in
      let e_on = rest_in l_on in
      let s_on = rest_in e_on in
      let n_on = rest_in s_on in
      let a_on = rest_in n_on in
      let m_on = rest_in a_on in
      one_of (one_of (front_in l_on) (one_of (front_in e_on) (one_of (front_in i_on) (one_of (front_in b_on) (front_in (itself {a = As_listed}))))))
      (one_of (front_in c_on) (one_of (front_in s_on) (one_of (front_in n_on) (one_of (front_in a_on) (one_of (front_in m_on) (one_of (front_in k_on) (one_of (front_in g_on) (rest_in m_on))))))))

  factored : Within As_listed As_factored
  factored =
      let l_on = front_in (itself {a = As_factored}) in
      let e_on = rest_in l_on in
      let i_on = rest_in e_on in
      let b_on = rest_in i_on in
      let c_on = rest_in (itself {a = As_factored}) in
      let s_on = rest_in c_on in
      let n_on = rest_in s_on in
      let a_on = rest_in n_on in
      let m_on = rest_in a_on in
      let k_on = rest_in m_on in
      let g_on = rest_in k_on in
      one_of (rest_in b_on) (one_of (front_in b_on) (one_of (front_in i_on) (one_of (front_in k_on) (one_of (front_in g_on) (one_of (front_in c_on) (one_of (front_in l_on)
      (one_of (front_in e_on) (one_of (front_in s_on) (one_of (front_in n_on) (one_of (front_in a_on) (one_of (front_in m_on) (rest_in g_on))))))))))))

  ordered : Alike As_factored As_listed
  ordered = (listed, factored)

pub rhs_is : Alike rhs rhs_as_written
unfolding rhs rhs_as_written
rhs_is = choice no_change (turned choices) then turned choices then choice (turned choices then fronts_are)
    (choice cast_is (choice no_change (choice no_change (choice new_array_is (choice new_multi_is (choice length_is (choice negated_is called_is))))))) then ordered _ _ _ _ _ _ _ _ _ _ _ _ _

pub rhs_same : Same rhs rhs_as_written
rhs_same = same rhs_is
