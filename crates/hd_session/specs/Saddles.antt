-- The printed certificate of the saddle of two points' pits.
use Rattle.std.specs.Prelude.{◌≡◌, ◌⊎◌, ℕ, Option}
use Rattle.hd_map.specs.declared.types.Pos.{Pos}
use Rattle.hd_map.specs.declared.types.Rank.{Rank}
use Rattle.hd_map.specs.declared.types.SideName.{SideName}
use Rattle.hd_map.specs.Map.{Map, InGrid, Present}
use Rattle.hd_map.specs.Rank.{rank}
use Rattle.hd_map.specs.Region.{IsRoot}
use Rattle.hd_check.specs.declared.types.Certificate.{Certificate}
use Rattle.hd_check.specs.Rules.{IsRight}
use Rattle.hd_check.specs.Text.{certificate_text}
use Rattle.hd_cert.specs.Shown.{IsShownCertificate}
use Rattle.hd_report.specs.Points.{not_present_text, one_region_text, outside_text}
use Rattle.hd_session.specs.Reply.{Reply, accepted_with, refused_for}
use Rattle.hd_session.specs.State.{State}

-- A where P does not hold, and B where it does
abbrev pub Unless : Type 0 → Type 0 → Type 0 → Type 0
Unless P A B = ((P → ⊥) × A) ⊎ (P × B)

-- the certificate of the pits of the two points' regions, that of the first as `from`
pub record ShowsSaddle (m : Map) (side : SideName) (a b : Pos) (reply : Reply) : Type 0 where
  pub from : Pos
  pub to : Pos
  pub from_present : Present m from
  pub to_present : Present m to
  pub from_root : IsRoot m side (rank m a) (rank m from)
  pub to_root : IsRoot m side (rank m b) (rank m to)
  pub apart : from ≡ to → ⊥
  pub saddle : Option Rank
  pub certificate : Certificate
  pub shown : IsShownCertificate m side from to saddle certificate
  pub printed : reply ≡ accepted_with (certificate_text certificate)

-- one pit is that of both points
pub record IsOneRegion (m : Map) (side : SideName) (a b : Pos) : Type 0 where
  pub pit : Rank
  pub first : IsRoot m side (rank m a) pit
  pub second : IsRoot m side (rank m b) pit

-- two present points in one region are refused; else their pits' saddle is shown
abbrev pub IsPairReply : Map → ℕ → SideName → Pos → Pos → Reply → Type 0
IsPairReply m number side a b reply =
    (IsOneRegion m side a b × (reply ≡ refused_for number one_region_text)) ⊎ ShowsSaddle m side a b reply

-- positions outside are refused, the first before the second, and then those that are not present
abbrev pub IsSaddleReply : Map → ℕ → SideName → Pos → Pos → Reply → Type 0
IsSaddleReply m number side a b reply =
    Unless (InGrid m.size a) (reply ≡ refused_for number (outside_text a))
    (Unless (InGrid m.size b) (reply ≡ refused_for number (outside_text b))
    (Unless (Present m a) (reply ≡ refused_for number (not_present_text a))
    (Unless (Present m b) (reply ≡ refused_for number (not_present_text b))
    (IsPairReply m number side a b reply))))

-- the saddle is shown on the present map, which stays
pub record IsSaddleAnswer (s : State) (number : ℕ) (side : SideName) (a b : Pos) (reply : Reply) (after : State) : Type 0 where
  pub stays : after ≡ s
  pub told : IsSaddleReply s.map number side a b reply

-- the reply is the text of a certificate of the two points' pits that is right on the map
pub record PrintsRight (m : Map) (side : SideName) (a b : Pos) (reply : Reply) : Type 0 where
  pub certificate : Certificate
  pub side_is : certificate.side ≡ side
  pub from_root : IsRoot m side (rank m a) (rank m certificate.from)
  pub to_root : IsRoot m side (rank m b) (rank m certificate.to)
  pub right : IsRight m certificate
  pub text : reply.text ≡ certificate_text certificate
