-- A `saddle` line has one answer, and what it prints is right.
use Rattle.std.proofs.Common.{◌≡◌, ◌∙◌, ℕ, true, Option, Some, None, inl, inr, refl, sym, ap, subst}
use Rattle.hd_map.specs.declared.types.Pos.{Pos}
use Rattle.hd_map.specs.declared.types.Rank.{Rank}
use Rattle.hd_map.specs.declared.types.SideName.{SideName}
use Rattle.hd_map.specs.Map.{Map, InGrid, Present}
use Rattle.hd_map.specs.Rank.{rank}
use Rattle.hd_map.specs.Region.{IsRoot}
use Rattle.hd_map.specs.Saddle.{IsSaddle, SaddleIs}
use Rattle.hd_map.proofs.Nexts.{root-is_pit}
use Rattle.hd_map.proofs.Points.{same_point}
use Rattle.hd_check.specs.declared.types.Certificate.{Certificate}
use Rattle.hd_check.specs.Text.{certificate_text}
use Rattle.hd_check.specs.Rules.{IsRight}
use Rattle.hd_cert.specs.Shown.{AreTwoPits, IsShownCertificate}
use Rattle.hd_session.specs.Reply.{Reply, accepted_with}
use Rattle.hd_session.specs.Saddles.{Unless, ShowsSaddle, IsOneRegion, IsPairReply, IsSaddleReply, IsSaddleAnswer, PrintsRight}
use Rattle.hd_session.specs.State.{State}

-- what the layers below determine
pub record DetermineSaddles : Type 0 where
  pub roots : (m : Map) (side : SideName) (p r s : Rank) → IsRoot m side p r → IsRoot m side p s → r ≡ s
  pub saddles : (m : Map) (side : SideName) (a b s t : Rank) → IsSaddle m side a b s → IsSaddle m side a b t → s ≡ t
  pub certificates : (m : Map) (side : SideName) (a b : Pos) (saddle : Option Rank) (c d : Certificate) → IsShownCertificate m side a b saddle c → IsShownCertificate m side a b saddle d → c ≡ d

-- what follows of each case follows of two answers of one form
unless-one : (P A B A' B' R : Type 0) → (A → A' → R) → (B → B' → R) → Unless P A B → Unless P A' B' → R
unless-one P A B A' B' R f g (inl x) (inl y) = f x.1 y.1
unless-one P A B A' B' R f g (inl x) (inr y) = absurd (x.0 y.0)
unless-one P A B A' B' R f g (inr x) (inl y) = absurd (y.0 x.0)
unless-one P A B A' B' R f g (inr x) (inr y) = g x.1 y.1

module _ (one : DetermineSaddles) (m : Map) (side : SideName) where
  -- there is one saddle, or none
  saddle_same : (p q : Rank) (s t : Option Rank) → SaddleIs m side p q s → SaddleIs m side p q t → s ≡ t
  saddle_same p q None None x y = refl
  saddle_same p q None (Some t) x y = absurd (x y.reached.0 y.reached.1)
  saddle_same p q (Some s) None x y = absurd (y x.reached.0 x.reached.1)
  saddle_same p q (Some s) (Some t) x y = ap Some (one.saddles m side p q s t x y)

  -- two pits of one point are one
  pit_same : (at p q : Pos) → Present m p → Present m q → IsRoot m side (rank m at) (rank m p) → IsRoot m side (rank m at) (rank m q) → p ≡ q
  pit_same at p q here there x y = same_point m p q here there (one.roots m side (rank m at) (rank m p) (rank m q) x y)

  module _ (number : ℕ) (a b : Pos) (r t : Reply) where
    shows-one : ShowsSaddle m side a b r → ShowsSaddle m side a b t → r ≡ t
    shows-one x y =
        let from : x.from ≡ y.from = pit_same a x.from y.from x.from_present y.from_present x.from_root y.from_root in
        let to : x.to ≡ y.to = pit_same b x.to y.to x.to_present y.to_present x.to_root y.to_root in
        let moved : IsShownCertificate m side x.from y.to y.saddle y.certificate = subst (λ (p : Pos). IsShownCertificate m side p y.to y.saddle y.certificate) (sym from) y.shown in
        let there : IsShownCertificate m side x.from x.to y.saddle y.certificate = subst (λ (p : Pos). IsShownCertificate m side x.from p y.saddle y.certificate) (sym to) moved in
        let saddle : x.saddle ≡ y.saddle = saddle_same (rank m x.from) (rank m x.to) x.saddle y.saddle x.shown.cut.shown.saddle_is there.cut.shown.saddle_is in
        let shown : IsShownCertificate m side x.from x.to x.saddle y.certificate = subst (λ (o : Option Rank). IsShownCertificate m side x.from x.to o y.certificate) (sym saddle) there in
        let same : x.certificate ≡ y.certificate = one.certificates m side x.from x.to x.saddle x.certificate y.certificate x.shown shown in
        x.printed ∙ ap (λ (c : Certificate). accepted_with (certificate_text c)) same ∙ sym y.printed

    -- two points in one region have no two pits
    not_both : (u : Reply) → IsOneRegion m side a b → ShowsSaddle m side a b u → ⊥
    not_both u one_pit y =
        let from : rank m y.from ≡ one_pit.pit = one.roots m side (rank m a) (rank m y.from) one_pit.pit y.from_root one_pit.first in
        let to : rank m y.to ≡ one_pit.pit = one.roots m side (rank m b) (rank m y.to) one_pit.pit y.to_root one_pit.second in
        y.apart (same_point m y.from y.to y.from_present y.to_present (from ∙ sym to))

    pair-one : IsPairReply m number side a b r → IsPairReply m number side a b t → r ≡ t
    pair-one (inl x) (inl y) = x.1 ∙ sym y.1
    pair-one (inl x) (inr y) = absurd (not_both t x.0 y)
    pair-one (inr x) (inl y) = absurd (not_both r y.0 x)
    pair-one (inr x) (inr y) = shows-one x y

    -- a line has one reply on a map
    reply-one : IsSaddleReply m number side a b r → IsSaddleReply m number side a b t → r ≡ t
    reply-one = unless-one (InGrid m.size a) _ _ _ _ (r ≡ t) (λ x y. x ∙ sym y)
        (unless-one (InGrid m.size b) _ _ _ _ (r ≡ t) (λ x y. x ∙ sym y)
        (unless-one (Present m a) _ _ _ _ (r ≡ t) (λ x y. x ∙ sym y)
        (unless-one (Present m b) _ _ _ _ (r ≡ t) (λ x y. x ∙ sym y) pair-one)))

-- and leaves one state
pub IsSaddleAnswer-unique : DetermineSaddles → (s s' s'' : State) (number : ℕ) (side : SideName) (a b : Pos) (r t : Reply) → IsSaddleAnswer s number side a b r s'
    → IsSaddleAnswer s number side a b t s''
    → (r ≡ t) × (s' ≡ s'')
IsSaddleAnswer-unique one s s' s'' number side a b r t x y = (reply-one one s.map side number a b r t x.told y.told, x.stays ∙ sym y.stays)

-- the shown certificate of two pits is right
abbrev pub IsShownRight : Type 0
IsShownRight = (m : Map) (side : SideName) (a b : Pos) (saddle : Option Rank) (c : Certificate) → AreTwoPits m side a b → IsShownCertificate m side a b saddle c → IsRight m c

module _ (law : IsShownRight) (m : Map) (number : ℕ) (side : SideName) (a b : Pos) (reply : Reply) (accepted : reply.accepted ≡ true) where
  shows-right : ShowsSaddle m side a b reply → PrintsRight m side a b reply
  shows-right x = record {
    certificate = x.certificate;
    side_is = x.shown.side_is;
    from_root = subst (λ (p : Pos). IsRoot m side (rank m a) (rank m p)) (sym x.shown.from_is) x.from_root;
    to_root = subst (λ (p : Pos). IsRoot m side (rank m b) (rank m p)) (sym x.shown.to_is) x.to_root;
    right = law m side x.from x.to x.saddle x.certificate (record {
      here = x.from_present;
      there = x.to_present;
      pit = root-is_pit m side (rank m a) (rank m x.from) x.from_root;
      other = root-is_pit m side (rank m b) (rank m x.to) x.to_root;
      apart = x.apart;
    }) x.shown;
    text = ap (λ (r : Reply). r.text) x.printed;
  }

  pair-right : IsPairReply m number side a b reply → PrintsRight m side a b reply
  pair-right (inl x) = absurd (let refused = x.1 in cc)
  pair-right (inr x) = shows-right x

  -- an accepted line prints a right certificate
  pub PrintsRight-reply : IsSaddleReply m number side a b reply → PrintsRight m side a b reply
  PrintsRight-reply (inl x) = absurd (let refused = x.1 in cc)
  PrintsRight-reply (inr (there, inl x)) = absurd (let refused = x.1 in cc)
  PrintsRight-reply (inr (there, inr (there', inl x))) = absurd (let refused = x.1 in cc)
  PrintsRight-reply (inr (there, inr (there', inr (here, inl x)))) = absurd (let refused = x.1 in cc)
  PrintsRight-reply (inr (there, inr (there', inr (here, inr (here', x))))) = pair-right x
