use Rattle.std.proofs.Common.{◌≡◌, List, Some, length, slice_get, true, false, inl, inr, refl, sym, ◌∙◌, ap, rules}
use Rattle.std.proofs.Math.ListN.{length-set}
use Rattle.std.proofs.lemmas.Option.{same_Some, slice_get_read}
use Rattle.hd_map.specs.Rank.{below_by}
use Rattle.hd_basin.specs.declared.meetings.Meeting.{Meeting}
use Rattle.hd_basin.proofs.ChainedMeetings.{chained-set}
use Rattle.hd_basin.proofs.meetings.Meetings.lower.Goals as goal

pub returns-then-not-below-clause-lowers : goal.returns-then-not-below-clause-lowers
returns-then-not-below-clause-lowers g c = λ a b known. (
    let list : List Meeting = c.args.self.now.list.items in
    let x : Meeting = c.index-meeting.result.now in
    let read : slice_get list c.args.number ≡ Some x = slice_get_read list (length list) c.args.number x refl c.requires.inside c.index-meeting.ensures in
    let same : known.meeting ≡ x = same_Some known.meeting x (sym known.at ∙ read) in
    let low : below_by g.S.Side.NAME c.args.at x.at ≡ false = search rules in
    inr (record {
      number = c.args.number;
      was = x;
      at = read;
      lesser = ap (λ (z : Meeting). z.a) (sym same) ∙ known.lesser;
      greater = ap (λ (z : Meeting). z.b) (sym same)
          ∙ known.greater;
      is = inl (refl, low);
    }))

pub returns-clause-chained : goal.returns-clause-chained
returns-clause-chained g c =
    let list : List Meeting = c.args.self.now.list.items in
    let x : Meeting = c.index-meeting.result.now in
    let read : slice_get list c.args.number ≡ Some x = slice_get_read list (length list) c.args.number x refl c.requires.inside c.index-meeting.ensures in
    let new : Meeting = record { a = x.a; b = x.b; at = c.args.at; before = x.before } in
    chained-set list c.args.number x new read refl refl c.args.self.now.lasts.items (length-set list c.args.number new) refl c.requires.chained

pub returns-clause-lowers : goal.returns-clause-lowers
returns-clause-lowers g c = λ a b known. (
    let list : List Meeting = c.args.self.now.list.items in
    let x : Meeting = c.index-meeting.result.now in
    let read : slice_get list c.args.number ≡ Some x = slice_get_read list (length list) c.args.number x refl c.requires.inside c.index-meeting.ensures in
    let same : known.meeting ≡ x = same_Some known.meeting x (sym known.at ∙ read) in
    let lesser : x.a ≡ a = ap (λ (z : Meeting). z.a) (sym same) ∙ known.lesser in
    let greater : x.b ≡ b = ap (λ (z : Meeting). z.b) (sym same) ∙ known.greater in
    let low : below_by g.S.Side.NAME c.args.at x.at ≡ true = search rules in
    let new : Meeting = record { a = x.a; b = x.b; at = c.args.at; before = x.before } in
    inr (record { number = c.args.number; was = x; at = read; lesser = lesser; greater = greater; is = inr (new, refl, record { lesser = lesser; greater = greater; at = refl }, low) }))
