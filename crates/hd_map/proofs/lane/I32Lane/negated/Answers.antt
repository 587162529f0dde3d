use Rattle.std.proofs.Common.{refl, arith}
use Rattle.std.proofs.lemmas.Int.{ints}
use Rattle.hd_map.specs.Encoding.{narrow, narrow_floor}
use Rattle.hd_map.proofs.Lanes.{negated_height}
use Rattle.hd_map.proofs.lane.I32Lane.negated.Goals as goal

pub returns-then-self-gt-FLOOR_NARROW : goal.returns-then-self-gt-FLOOR_NARROW
returns-then-self-gt-FLOOR_NARROW c = negated_height narrow narrow_floor (λ z. refl) c.args.self _ (omega (arith, ints)) (omega (arith, ints)) c.requires (omega (arith, ints))
