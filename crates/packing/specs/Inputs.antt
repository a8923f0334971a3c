-- Refusal numbers: a place that the checks of an input tell is one of at most 256. Assumes nothing.
use Rattle.std.specs.Prelude.{ℕ, ◌-◌, ◌≤◌, ◌≡◌, true, ◌&&◌, List, [], ◌∷◌, eqb, pos, ◌+ℤ◌, ◌*ℤ◌}
use Rattle.std.proofs.Common.{arith, eqb-true}
use Rattle.std.proofs.Math.Path.{refl}
use Rattle.std.proofs.Math.ListN.{length}
use Rattle.whole.specs.Row.{length_tab}
use Rattle.rule.specs.Rows.{Row, cell, map, all, same}
use Rattle.rule.specs.Ranges.{cells_allowed, most_cells}
use Rattle.rule.specs.Channel.{Channel, rows, lengths, water}
use Rattle.rule.specs.Coefficients.{coefficients}
use Rattle.rule.specs.declared.Refusal.TheVariants.{Shape, CountValue, DepthValue, HeightValue, VelocityValue, ReducedValue, FluxValue, AccelerationValue, DampingValue, PouredValue, Depth, TimeStep, Dominance, Complete}
use Rattle.rule.specs.Refusals.{place}
use Rattle.rule.specs.Checks.{long, deep, timed, wet, pourable, shaped, allowed, checked, ready}
use Rattle.rule.specs.Make.{make_checked}
use Rattle.checks.specs.Tests.{both}
use Rattle.checks.specs.Facts.{LengthsOf, cells_few, long_four}
use Rattle.checks.specs.Allowed.{shape_lengths}
use Rattle.packing.specs.Small.{Bounded, bounded_require, bounded_then, bounded_test, bounded_each, bounded_levels}

pub deep_bounded : (n : ℕ) (h e : Row) → n ≤ most_cells → Bounded (deep n h e)
unfolding deep water place
deep_bounded n h e few = bounded_each _ _ Depth (λ j. refl) (omega (arith, length_tab n (λ j. pos 1000 *ℤ cell h j +ℤ cell e j)))

wet_bounded : (n X T : ℕ) (h e : Row) → n ≤ most_cells → Bounded (wet n X T h e)
unfolding wet timed place
wet_bounded n X T h e few =
    bounded_then (deep n h e) _ (deep_bounded n h e few) (λ _ _.
    bounded_test _ TimeStep _ refl (λ _. bounded_each _ _ Dominance (λ j. refl) (omega (arith, length_tab n (coefficients n X h)))))

-- the rows that are poured have n entries each
pours_bounded : (n : ℕ) (poured : List Row) → n ≤ most_cells → long n poured ≡ true → Bounded (pourable poured)
unfolding pourable long all place
pours_bounded n [] few e = tt
pours_bounded n (s ∷ more) few e =
    let p = both (eqb (length s) n) (long n more) e in
    bounded_then _ _ (bounded_each _ s PouredValue (λ j. refl) (omega (arith, eqb-true (length s) n p.0))) (λ _ _. pours_bounded n more few p.1)

module _ (c : Channel) (poured : List Row) where
  pub allowed_bounded : shaped c poured ≡ true → Bounded (allowed c poured)
  unfolding allowed shaped place
  allowed_bounded p =
      let k = shape_lengths c poured p in
      let few = (cells_few c.N k.0).1 in
      let is : LengthsOf c = k.1 in
      let pours = (both (cells_allowed c.N && same (map length (rows c)) (lengths c.N)) (long c.N poured) p).1 in
      bounded_test _ CountValue _ refl (λ _.
      bounded_then _ _ (bounded_each _ c.h DepthValue (λ j. refl) (omega (arith, is.h_long))) (λ _ _.
      bounded_then _ _ (bounded_each _ c.e HeightValue (λ j. refl) (omega (arith, is.e_long))) (λ _ _.
      bounded_then _ _ (bounded_each _ c.u VelocityValue (λ j. refl) (omega (arith, is.u_long))) (λ _ _.
      bounded_then _ _ (bounded_each _ c.v ReducedValue (λ j. refl) (omega (arith, is.v_long))) (λ _ _.
      bounded_then _ _ (bounded_levels (c.N - 1) _ c.Q FluxValue (λ j. refl) (omega arith)) (λ _ _.
      bounded_then _ _ (bounded_levels c.N _ c.F AccelerationValue (λ j. refl) few) (λ _ _.
      bounded_then _ _ (bounded_each _ c.damping DampingValue (λ j. refl) (omega (arith, is.damping_long))) (λ _ _.
      bounded_then _ _ (pours_bounded c.N poured few pours) (λ _ _.
      wet_bounded c.N c.X c.T c.h c.e few)))))))))

  pub checked_bounded : Bounded (checked c poured)
  unfolding checked place
  checked_bounded = bounded_test (shaped c poured) Shape _ refl allowed_bounded

  pub ready_bounded : Bounded (ready c poured)
  unfolding ready place
  ready_bounded = bounded_then (checked c poured) _ checked_bounded (λ _ _. bounded_require _ Complete refl)

pub made_bounded : (n X T wanted : ℕ) (h e u damping : Row) → Bounded (make_checked n X T wanted h e u damping)
unfolding make_checked place
made_bounded n X T wanted h e u damping =
    bounded_test (cells_allowed n && long n (h ∷ e ∷ u ∷ damping ∷ [])) Shape _ refl (λ p.
    let k = both (cells_allowed n) (long n (h ∷ e ∷ u ∷ damping ∷ [])) p in
    let few = (cells_few n k.0).1 in
    let is = long_four n h e u damping k.1 in
    bounded_test _ CountValue _ refl (λ _.
    bounded_then _ _ (bounded_each _ h DepthValue (λ j. refl) (omega (arith, is.0))) (λ _ _.
    bounded_then _ _ (bounded_each _ e HeightValue (λ j. refl) (omega (arith, is.1.0))) (λ _ _.
    bounded_then _ _ (bounded_each _ u VelocityValue (λ j. refl) (omega (arith, is.1.1.0))) (λ _ _.
    bounded_then _ _ (bounded_each _ damping DampingValue (λ j. refl) (omega (arith, is.1.1.1))) (λ _ _.
    wet_bounded n X T h e few))))))
