-- `acceleration::undamped` meets its contract: no sum wraps. Assumes nothing.
use Rattle.std.proofs.Common.{◌≡◌, ℕ, ◌*◌, ◌<◌, ℤ, pos, ap, ◌∙◌, le_trans, lit≤, arith}
use lib.IntN.{+ℤ_idl}
use Rattle.whole.specs.Expr.{E, var, res, lit, add, sub, mul, plain, need, rd, rd_is, abs≤}
use Rattle.rule.specs.Rounded.{rounded}
use Rattle.rule.specs.Rows.{Row, cell}
use Rattle.rule.specs.Mirror.{even, odd}
use Rattle.rule.specs.Acceleration.{D, undamped}
use Rattle.rule.specs.Ranges.{most_height, most_velocity}
use Rattle.round.specs.Quotients.{rounded_less}
use Rattle.dispersion.specs.Asked.{Moving}
use Rattle.dispersion.specs.Sizes.{slope_asked, slope_even, slope_odd}
use Rattle.dispersion.proofs.Laws.{read_small}
use Rattle.acceleration.proofs.undamped.Goals as goal

-- the two parts of what is divided, of the weighted sums that are the slopes
module _ {n x : ℕ} {e u : Row} (p : Moving n x e u) (j : ℕ) (l : j < n) where
  abbrev gravity : {z : ℤ} → z ≡ D (even n e) j → E
  gravity i = mul (lit (pos 9_810_000)) (res 360_000_000 i (slope_even most_height n e p.heights.small (omega (arith, p.heights.least)) j l))

  abbrev advection : {z : ℤ} → z ≡ D (odd n u) j → E
  advection i =
      mul (var (cell u j) most_velocity (p.velocities.small.at j l))
      (res 360_000_000 i (slope_odd most_velocity n u p.velocities.small (omega (arith, p.heights.least)) j l))

  abbrev both : {y z : ℤ} → y ≡ D (even n e) j → z ≡ D (odd n u) j → E
  both i k = add (gravity i) (advection k)

  -- what is divided, rounded and with its sign changed
  abbrev whole : {y z q : ℤ} (i : y ≡ D (even n e) j) (k : z ≡ D (odd n u) j) → q ≡ rounded (rd (both i k)) (12 * (1000 * x)) → E
  whole i k r =
      let d = 12 * (1000 * x) in
      sub (lit (pos 0))
      (res 10_731_600_000_000_000 (r ∙ ap (λ z. rounded z d) (rd_is (both i k) tt))
      (le_trans (rounded_less (plain (both i k)) d (omega (arith, p.positive))) (abs≤ (both i k))))

pub weigh-gravity-requires : goal.weigh-gravity-requires
weigh-gravity-requires c = slope_asked c.args.n c.args.e.now c.requires.0.heights c.args.j c.requires.1

pub overflow_mul-gravity : goal.overflow_mul-gravity
unfolding D
overflow_mul-gravity c = need (gravity c.requires.0 c.args.j c.requires.1 c.weigh-gravity.ensures) tt

pub weigh-requires : goal.weigh-requires
weigh-requires c = slope_asked c.args.n c.args.u.now c.requires.0.velocities c.args.j c.requires.1

pub overflow_mul-advection : goal.overflow_mul-advection
unfolding D
overflow_mul-advection c = need (advection c.requires.0 c.args.j c.requires.1 c.weigh.ensures) tt

pub overflow_add-gravity : goal.overflow_add-gravity
unfolding D
overflow_add-gravity c = need (both c.requires.0 c.args.j c.requires.1 c.weigh-gravity.ensures c.weigh.ensures) tt

pub rounded-requires : goal.rounded-requires
unfolding D
rounded-requires c =
    (le_trans (read_small (both c.requires.0 c.args.j c.requires.1 c.weigh-gravity.ensures c.weigh.ensures) tt) (lit≤ tt), (omega (arith, c.requires.0.positive), omega (arith, c.requires.0.wide)))

pub overflow_sub-result : goal.overflow_sub-result
unfolding D
overflow_sub-result c = need (whole c.requires.0 c.args.j c.requires.1 c.weigh-gravity.ensures c.weigh.ensures c.rounded.ensures) tt

pub returns : goal.returns
unfolding D undamped
returns c =
    rd_is (whole c.requires.0 c.args.j c.requires.1 c.weigh-gravity.ensures c.weigh.ensures c.rounded.ensures) tt ∙ +ℤ_idl _
