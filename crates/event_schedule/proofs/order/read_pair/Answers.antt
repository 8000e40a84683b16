use Rattle.std.proofs.Common.{◌∙◌, ℕ, List, ap, codes, drop, subst, sym, take}
use Rattle.std.proofs.lemmas.List.{append_cancel_left}
use Rattle.event_schedule.specs.Schedules.{Writes}
use Rattle.event_schedule.proofs.Numbers.{first_is, rest_is}
use Rattle.event_schedule.proofs.order.read_pair.Goals as goal

pub returns-in_default-clause-none : goal.returns-in_default-clause-none
returns-in_default-clause-none c = λ worker place s.
    let text = c.args.text.now in
    let back = c.split_at.ensures.back ∙ ap (λ (n : ℕ). drop n text) c.word_len.ensures.value in
    c.in_default.ensures.none s.second (back ∙ sym (rest_is text worker place s))

pub returns-in_default-read_worker-clause-none : goal.returns-in_default-read_worker-clause-none
returns-in_default-read_worker-clause-none c = λ worker place s.
    let text = c.args.text.now in
    let front = c.split_at.ensures.front ∙ ap (λ (n : ℕ). take n text) c.word_len.ensures.value in
    c.in_default-read_worker.ensures.none worker (subst (λ (t : List ℕ). Writes 32 t worker) (first_is text worker place s ∙ sym front) s.worker_is)

pub returns-in_default-read_place-clause-none : goal.returns-in_default-read_place-clause-none
returns-in_default-read_place-clause-none c = λ worker place s.
    let text = c.args.text.now in
    let back = c.split_at.ensures.back ∙ ap (λ (n : ℕ). drop n text) c.word_len.ensures.value in
    let second = append_cancel_left (codes " ") s.second c.in-Some.second.now (rest_is text worker place s ∙ sym back ∙ c.in-Some.ensures.some) in
    c.in_default-read_place.ensures.none place (subst (λ (t : List ℕ). Writes 64 t place) second s.place_is)
