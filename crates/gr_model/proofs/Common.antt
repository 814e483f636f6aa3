-- The kit's names and lemmas that proofs cite most, passed on from one place. Declares nothing.
pub use Rattle.std.proofs.Common.{All, AllPairs, Any, Bool, Bor, Contains, Decides, Err, HoldsAt, IfErr, IfOk, IfSome, IsErr, IsErrAnd, IsFalse, IsOk, IsPermutation, IsTrue, IsUtf8, List, MatchOption, None, Ok, OnErr, OnOk, OnSome, Option, Result, Some, Vec, [], add-zero, add_assoc, ap, append-nil, append_assoc, ap₂, arith, below_more, codes, cond, decimal, drop, drop_at, eq-eqb, eq-or-lt_of_le, eqb, eqb-true, ext_get_or, false, filter, filter_map, find, flat_map, fold, get_or, get_or-append-add, get_or-drop, get_or-set_other, get_or-set_same, if◌then◌else◌, inl, inr, is_some, le-leb, le-ltb, length, length-append, length-drop, length-set, length-take, length-take-le, lit<, lt-ltb, lt_trans, ltb, ltb-true, map, map-id, max, mod-lt, nat_eq, nat_le, nat_lt, ne_eqb, not, one-add, option_and_then, option_copied, option_map, position, refl, replicate, rules, set, set-set, slice_get, slice_index, slice_index_or, slice_set, string_bytes, sub-one, subst, suc, suc-add, sum, sym, take, take-append-drop, take_all, take_at, tests, true, true≢false, vec_capacity, vec_len, w64, zero, ℕ, ⊎_elim, ◌%◌, ◌&&◌, ◌*◌, ◌++◌, ◌+◌, ◌-◌, ◌/◌, ◌<◌, ◌==◌, ◌^◌, ◌||◌, ◌↔◌, ◌∙◌, ◌∷◌, ◌≡◌, ◌≢◌, ◌≤◌, ◌⊎◌}
pub use Rattle.std.proofs.Math.ListN.{drop_of_length-le, get_or-append, get_or-eq_default}
pub use Rattle.std.proofs.Math.Seq.{get_or-append_seam, map-set_same, split_at, take-append_seam, take-suc}
pub use Rattle.std.proofs.alloc.Calls.{Al, Answer, Answer-Ok, Answer-err, Answer-typed, Answered, Gives, Gives-Gives, Gives-goes, Takes, Takes-gives, Takes-goes, answer_val, answers, at_gives, at_takes, gives_key, seen, takes_key, token, α}
pub use Rattle.std.proofs.lemmas.Bool.{and_from, and_parts, and_right, both_ways, cases_Bool, cases_eq, cases_lt, cases_order, cond_both, eqb-false, false_from_ne_true, iff_false, leb-false, leb-true, lt-leb, ltb-false, not-false, not-true, not_from_false, or_from, or_parts, or_right, true_from_ne_false}
pub use Rattle.std.proofs.lemmas.Bool.Decides.{Decides-eqb, Decides-or, nat_tests, same_from_decides}
pub use Rattle.std.proofs.lemmas.Grind.{common_steps, elements, get_or-set_at}
pub use Rattle.std.proofs.lemmas.List.{append_cancel_left, append_cancel_right, at_drop_all, at_drop_more, drop-append-le, drop-drop, drop-map, drop-take, drop_all, drop_more, get_or-append_right, get_or-map, get_or-replicate, get_or-take, get_or_append_left, get_or_default, get_or_past, get_or_push, get_or_read, length-map, length-replicate, length_push, map-append, map-set, map_more, map_push, nil_from_length, places, set-append_left, set-get_or, take-append-le, take-take, take_more, take_more_set, take_rest, with_items_is}
pub use Rattle.std.proofs.lemmas.List.Elements.{All-append, All-cons, All-contains, All-contains_itself, All-filter, All-from_all_within, All-from_get_or, All-get_or, All-head, All-map, All-more, All-nil, All-push, All-rest, All-same, All-set, All-tail, All-weaker, AllWithin-more, AllWithin-upto, Contains-append_cases, Contains-append_left, Contains-append_right, Contains-get_or, Contains-push, Contains-push_cases, filter-append, filter_map-append, filter_passes, same_from_all_zip}
pub use Rattle.std.proofs.lemmas.List.Folds.{Any-from_list_any, find-append, flat_map-map, list_all-append, list_any-append, list_any_at, list_any_none}
pub use Rattle.std.proofs.lemmas.List.FromFn.{fill_by_all, get_or-map-range_with_len, get_or-range_with_len, length-map-range_with_len, length-range_with_len, map-range_with_len_more}
pub use Rattle.std.proofs.lemmas.List.Sorted.{All-permutation, Contains-permutation, IsNonDecreasingBy-from_sort_by_key, IsPermutation-map, IsPermutation-sym}
pub use Rattle.std.proofs.lemmas.List.Sums.{AllPass-from_list_all, count_by-le-length, fold_more, get_or-le-sum_by, length-filter, list_all-from_AllPass, sum_by-append, sum_by-cons, sum_by-le, sum_by-set, sum_by_more}
pub use Rattle.std.proofs.lemmas.Map.Made.{AllPairs-from_IsDistinct, IsDistinct-from_AllPairs, is_member-filter, is_some-lookup, length-intersection_difference, length-le_from_is_member}
pub use Rattle.std.proofs.lemmas.Option.{IfSome_then, MatchOption-at_none, MatchOption-at_some, get_or_from_slice_get, gets, option_and_then_some, same_Some, slice_get-get_or, slice_get-map, slice_get_cases, slice_get_past, slice_get_read, slice_get_within}
pub use Rattle.std.proofs.lemmas.Result.{IfErr-weaker, IfOk-at_ok, IfOk-weaker, err_from_is_err_and, on_err_weaker, on_ok_weaker}
pub use Rattle.std.specs.Io.KnownBytes.{Appends, Consumes, IsAtEnd, Keeps, prepend_known}
pub use Rattle.std.specs.List.{AllAdjacentBelow, AllByRecursion, AllWithin, AllZip, IsDistinct, cons_option, last_or, list_all, list_any, onto_first, position_from, range_with_len, sum_by}
pub use Rattle.std.specs.Prelude.{IsSome, IsSomeAnd, ⊤}
pub use Rattle.std.specs.Vec.Iter.{into_iter_items, into_iter_len}
