-- How many tiles were touched.
use Rattle.std.proofs.Common.{◌≡◌, ◌+◌, ◌<◌, ◌≤◌, ℕ, Bool, List, Some, take, slice_get, nat_lt, ap, ◌∙◌}
use Rattle.std.proofs.lemmas.Bool.{le-ltb, lt-ltb}
use Rattle.std.proofs.lemmas.List.Sums.{count_by_more_no, count_by_more_yes}
use Rattle.std.proofs.lemmas.Option.{get_or_from_slice_get, slice_get_within}
use Rattle.hd_pool.specs.Outlay.{touched_after}

module _ (changes : ℕ) (stamps : List ℕ) (i stamp : ℕ) (read : slice_get stamps i ≡ Some stamp) where
  abbrev is_after : ℕ → Bool
  is_after s = nat_lt changes s

  -- one more tile, which was touched
  pub touched-more : changes < stamp → touched_after changes (take (i + 1) stamps) ≡ touched_after changes (take i stamps) + 1
  touched-more above = count_by_more_yes is_after stamps i 0 (slice_get_within stamps i stamp read) (ap is_after (get_or_from_slice_get stamps i stamp 0 read) ∙ lt-ltb changes stamp above)

  -- one more tile, which was not
  pub touched-same : stamp ≤ changes → touched_after changes (take (i + 1) stamps) ≡ touched_after changes (take i stamps)
  touched-same below = count_by_more_no is_after stamps i 0 (slice_get_within stamps i stamp read) (ap is_after (get_or_from_slice_get stamps i stamp 0 read) ∙ le-ltb changes stamp below)
