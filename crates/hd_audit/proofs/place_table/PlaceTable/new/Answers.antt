use Rattle.std.proofs.Common.{◌≡◌, ◌∙◌, ap, map, replicate, rules}
use Rattle.hd_audit.specs.Places.{place_of_number}
use Rattle.hd_audit.proofs.BlankPlaces.{place_of_number-none}
use Rattle.hd_audit.proofs.place_table.PlaceTable.new.Goals as goal

pub returns : goal.returns
returns c = (let zeros : c.in_ok-vec.field-0.items ≡ replicate c.args.count 0 = search rules in ap (map place_of_number) zeros ∙ place_of_number-none c.args.count)
