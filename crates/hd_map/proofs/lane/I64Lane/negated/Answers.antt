use Rattle.std.proofs.Common.{refl, arith}
use Rattle.std.proofs.lemmas.Int.{ints}
use Rattle.hd_map.specs.Encoding.{wide, wide_floor}
use Rattle.hd_map.proofs.Lanes.{negated_height}
use Rattle.hd_map.proofs.lane.I64Lane.negated.Goals as goal

pub returns-then-self-gt-FLOOR_WIDE : goal.returns-then-self-gt-FLOOR_WIDE
returns-then-self-gt-FLOOR_WIDE c = negated_height wide wide_floor (λ z. refl) c.args.self _ (omega (arith, ints)) (omega (arith, ints)) c.requires (omega (arith, ints))
