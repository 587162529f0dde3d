-- The answer that tells the size, the type and the heights of a map, and the scales of its file.
use Rattle.std.specs.Prelude.{ℕ, List, length}
use Rattle.hd_map.specs.declared.presence.Presence.{Presence}
use Rattle.hd_map.specs.Map.{Map}
use Rattle.hd_map.specs.Presence.{present_heights}
use Rattle.hd_map.specs.HeightRange.{range_of}
use Rattle.hd_report.specs.Info.{info_text}
use Rattle.hd_session.specs.Reply.{Reply, Reports, accepted_with}
use Rattle.hd_session.specs.State.{FileTexts, State}

-- how many points of a map are present, and the range of their heights
abbrev pub presence_on : Map → Presence
presence_on m = record { count = length (present_heights m); range = range_of (present_heights m) }

-- the lines on a map, with the scales as they were read
abbrev pub info_on : FileTexts → Map → List ℕ
info_on texts m = info_text m.size m.data_type (presence_on m) texts.x_scale.literal texts.y_scale.literal texts.z_scale.literal

-- the present map and the scales are told
abbrev pub IsInfoAnswer : State → Reply → State → Type 0
IsInfoAnswer s reply after = Reports s after (accepted_with (info_on s.read s.map)) reply
