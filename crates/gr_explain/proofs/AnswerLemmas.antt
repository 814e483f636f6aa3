-- Answers, one for each question.
use Rattle.gr_model.proofs.Common.{◌≡◌, ◌+◌, ◌<◌, ℕ, List, [], ◌∷◌, ◌++◌, get_or, length, take, AllZip, take_more, slice_get-get_or}
use Rattle.std.proofs.lemmas.Slice.Zip.{AllZip-left, AllZip-long, all_zipped_more}

module _ {X Y : Type 0} (R : X → Y → Type 0) where
  -- that of the question at a place
  pub answer_at : (xs : List X) (ys : List Y) (i : ℕ) (d : X) (e : Y) → AllZip R xs ys → i < length xs → R (get_or xs i d) (get_or ys i e)
  answer_at xs ys i d e are lt =
      let within : i < length ys = rw (AllZip-long R xs ys are) lt in
      rw (slice_get-get_or xs i d lt, slice_get-get_or ys i e within) at (AllZip-left R xs ys are i)

  -- to the next question of a list
  pub answers_next : (xs : List X) (i : ℕ) (d : X) (ys new : List Y) (y : Y) → i < length xs → new ≡ ys ++ y ∷ [] → AllZip R (take i xs) ys → R (get_or xs i d) y → AllZip R (take (i + 1) xs) new
  answers_next xs i d ys new y lt pushed so_far is = rw (take_more xs i d lt, pushed) (all_zipped_more R (take i xs) ys (get_or xs i d) y so_far is)
