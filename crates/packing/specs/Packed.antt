-- Refusal numbers: number, stage, place and count come back out of the one number that C gets, as the header's functions take them out.
-- Assumes nothing.
use Rattle.std.specs.Prelude.{ℕ, ◌+◌, ◌*◌, ◌/◌, ◌%◌, ◌<◌, ◌≡◌, List}
use Rattle.std.proofs.Common.{arith, sym, ap, ◌∙◌}
use Rattle.rule.specs.declared.Answer.{Answer}
use Rattle.rule.specs.Calls.{packed, check_file, step_file, filter_file, run_for_file, make_file}
use Rattle.packing.specs.Small.{Small}
use Rattle.rule.specs.Rows.{Row}
use Rattle.gauge.specs.OnGauges.{place_file, feed_file, read_state}
use Rattle.packing.specs.Answers.{check_answer, step_answer, filter_answer, run_answer, make_answer}
use Rattle.packing.specs.Gauges.{place_answer, feed_answer, read_answer}

-- the answer that is in a number: pathpetal_number, pathpetal_stage, pathpetal_place and pathpetal_count of the header
unfoldable pub unpacked : ℕ → Answer
unpacked p = record { number = p / 256 % 256; stage = p % 256; place = p / 65_536 % 512; count = p / 33_554_432 }

nine_bits : (q r : ℕ) → r < 512 → (q * 512 + r) % 512 ≡ r
nine_bits q r h = omega arith

-- of every answer that a call over bytes can give
pub unpacked_packed : (a : Answer) → Small a → unpacked (packed a) ≡ a
unfolding unpacked packed
unpacked_packed a h =
    let p = a.count * 33_554_432 + a.place * 65_536 + a.number * 256 + a.stage in
    let above : p / 256 ≡ a.count * 131_072 + a.place * 256 + a.number = omega arith in
    let number : p / 256 % 256 ≡ a.number = omega (arith, above) in
    let stage : p % 256 ≡ a.stage = omega arith in
    let higher : p / 65_536 ≡ a.count * 512 + a.place = omega arith in
    let place : p / 65_536 % 512 ≡ a.place = ap (λ k. k % 512) higher ∙ nine_bits a.count a.place (omega arith) in
    let count : p / 33_554_432 ≡ a.count = omega arith in
    rw (number, stage, place, count)

-- so that two of them are one where their numbers are
pub one_answer : (a b : Answer) → Small a → Small b → packed a ≡ packed b → a ≡ b
one_answer a b h g e = sym (unpacked_packed a h) ∙ ap unpacked e ∙ unpacked_packed b g

-- a number that is such an answer's
by_small : {p : ℕ} (a : Answer) → Small a → p ≡ packed a → unpacked p ≡ a
by_small a h e = ap unpacked e ∙ unpacked_packed a h

module _ {p : ℕ} where
  pub make_unpacked : (n X T wanted : ℕ) (h e u damping buffer : List ℕ) → let a = (make_file n X T wanted h e u damping buffer).answer in p ≡ packed a → unpacked p ≡ a
  make_unpacked n X T wanted h e u damping buffer z = by_small _ (make_answer n X T wanted h e u damping buffer) z

  pub check_unpacked : (s : List ℕ) → p ≡ packed (check_file s) → unpacked p ≡ check_file s
  check_unpacked s z = by_small _ (check_answer s) z

  pub step_unpacked : (s poured : List ℕ) → let a = (step_file s poured).answer in p ≡ packed a → unpacked p ≡ a
  step_unpacked s poured z = by_small _ (step_answer s poured) z

  pub filter_unpacked : (s : List ℕ) → let a = (filter_file s).answer in p ≡ packed a → unpacked p ≡ a
  filter_unpacked s z = by_small _ (filter_answer s) z

  pub run_unpacked : (most : ℕ) (s : List ℕ) → let a = (run_for_file most s).answer in p ≡ packed a → unpacked p ≡ a
  run_unpacked most s z = by_small _ (run_answer most s) z

  pub place_unpacked : (file : List ℕ) (j : ℕ) (s : List ℕ) → let a = (place_file file j s).answer in p ≡ packed a → unpacked p ≡ a
  place_unpacked file j s z = by_small _ (place_answer file s j) z

  pub feed_unpacked : (file s : List ℕ) → let a = (feed_file file s).answer in p ≡ packed a → unpacked p ≡ a
  feed_unpacked file s z = by_small _ (feed_answer file s) z

  pub read_unpacked : (s : List ℕ) (room : Row) → let a = (read_state s room).answer in p ≡ packed a → unpacked p ≡ a
  read_unpacked s room z = by_small _ (read_answer s room) z
