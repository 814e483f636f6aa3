use Rattle.std.proofs.lemmas.List.Filters.{dedup_is}
use Rattle.std.proofs.lemmas.List.Kept.{Contains-dedup, Contains-from_dedup, IsStrictlySortedBy-dedup}
use Rattle.gr_model.proofs.Common.{Contains-permutation, IsPermutation-sym}
use Rattle.std.proofs.lemmas.Map.Keys.{Less-from_sorted}
use Rattle.gr_model.specs.contracts.event.WordOrd.TheImpl.Laws as ordered
use Rattle.gr_model.specs.contracts.event.WordEq.TheImpl.Laws as equal
use Rattle.gr_model.proofs.WordLemmas.{below_from_less, same_from_equal, ties}
use Rattle.gr_model.proofs.words.order_words.Goals as goal

pub returns : goal.returns
returns g c =
    let is = dedup_is _ _ _ c.dedup.ensures.filtered in
    let moved = c.sort_unstable.ensures.permutation in
    record {
      ascending = rw is (λ i j d before within. below_from_less _ _ (Less-from_sorted _ _ i j d (IsStrictlySortedBy-dedup ordered.total-law ties _ c.sort_unstable.ensures.sorted) before within));
      exact = λ w. (
        λ h. Contains-permutation _ _ w (IsPermutation-sym _ _ moved) (Contains-from_dedup _ _ w (rw is at h)),
        λ h. rw is (Contains-dedup equal.laws-law same_from_equal _ w (Contains-permutation _ _ w moved h)),
      );
    }
