-- The answer that prints the certificate of a pruning.
use Rattle.std.specs.Prelude.{◌≡◌}
use Rattle.hd_audit.specs.declared.types.Audit.{Audit}
use Rattle.hd_audit.specs.Rules.{IsRight}
use Rattle.hd_audit.specs.Shown.{IsShown}
use Rattle.hd_audit.specs.Text.{audit_text}
use Rattle.hd_map.specs.declared.types.SideName.{SideName}
use Rattle.hd_map.specs.Map.{Map}
use Rattle.hd_num.specs.declared.percent.Percent.{Percent}
use Rattle.hd_session.specs.Reply.{Reply, Reports, accepted_with}
use Rattle.hd_session.specs.State.{State}

-- the certificate that is shown of the pruning of the present map is printed
pub record IsAuditAnswer (s : State) (side : SideName) (percent : Percent) (reply : Reply) (after : State) : Type 0 where
  pub audit : Audit
  pub shown : IsShown s.map side percent audit
  pub answer : Reports s after (accepted_with (audit_text audit)) reply

-- the reply is the text of a certificate for this side and percent that is right on the map
pub record PrintsRightAudit (m : Map) (side : SideName) (percent : Percent) (reply : Reply) : Type 0 where
  pub audit : Audit
  pub side_is : audit.side ≡ side
  pub percent_is : audit.percent ≡ percent
  pub right : IsRight m audit
  pub text : reply.text ≡ audit_text audit
