-- Files that are opened one by one.
use Rattle.gr_model.proofs.Common.{ℕ, ◌+◌, ◌<◌, List, [], ◌∷◌, ◌++◌, length, map, take, drop, get_or, Result, Ok, Err, ap, ◌∙◌, Bor, suc, split_at, map-append, map_more}
use Rattle.std.proofs.lemmas.Slice.Zip.{all_zipped_more}
use Rattle.gr_places.specs.Files.{AreOpened, IsFirstUnopened}

module _ {T E : Type 0} (Gives : List ℕ → Result T E → Type 0) (names : List (Bor (List ℕ))) (i : ℕ) (d : Bor (List ℕ)) (files : List T) (lt : i < length names) (so_far : AreOpened Gives (map (λ s. s.now) (take i names)) files) where
  pub opened_more : (file : T) → Gives (get_or names i d).now (Ok file) → AreOpened Gives (map (λ s. s.now) (take (i + 1) names)) (files ++ file ∷ [])
  opened_more file one = rw (map_more (λ s. s.now) names i d lt) (all_zipped_more (λ name f. Gives name (Ok f)) (map (λ s. s.now) (take i names)) files (get_or names i d).now file so_far one)

  pub first_unopened : (error : E) → Gives (get_or names i d).now (Err error) → IsFirstUnopened Gives (map (λ s. s.now) names)
  first_unopened error refused =
      record {
        before = map (λ s. s.now) (take i names);
        name = (get_or names i d).now;
        after = map (λ s. s.now) (drop (suc i) names);
        split = ap (map (λ s. s.now)) (split_at names i d lt) ∙ map-append (λ s. s.now) (take i names) (get_or names i d ∷ drop (suc i) names);
        files = files;
        opened = so_far;
        error = error;
        refused = refused;
      }
