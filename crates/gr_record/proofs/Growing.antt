-- What is read of more bytes, from what was read of fewer.
use Rattle.gr_model.proofs.Common.{◌≡◌, ℕ, zero, suc, ◌-◌, List, ◌++◌, length, take, drop, Result, arith, take-append-le, drop-append-le, length-append, nat_tests}
use Rattle.std.proofs.Math.Nat.{suc-sub-suc, sub-zero}
use Rattle.gr_record.specs.Prelude.{Event, RecordError, Stop, Inside, AtEnd, AtFault, Records, records_at}
use Rattle.gr_record.proofs.Loop.{with_prefix, next}

-- the records of bytes that others follow, where next is what is read of those that were left and the others
abbrev pub grown : Stop → Records → (ℕ → Records) → List ℕ → Records
grown Inside r further b = with_prefix r.events (further (length r.events))
grown AtEnd r further b = record { events = r.events; rest = r.rest ++ b; stop = AtEnd }
grown (AtFault e) r further b = record { events = r.events; rest = r.rest ++ b; stop = AtFault e }

module _ (size : ℕ) (read : List ℕ → Result Event RecordError) (b : List ℕ) where
  abbrev pub Grows : ℕ → List ℕ → Records → Type 0
  Grows most a r = records_at size read most (a ++ b) ≡ grown r.stop r (λ n. records_at size read (most - n) (r.rest ++ b)) b

  none_grows : (a : List ℕ) → Grows 0 a (records_at size read 0 a)
  unfolding records_at
  none_grows a = grind (arith, nat_tests, length-append a b)

  more_grows : (most : ℕ) (a : List ℕ) → Grows most (drop size a) (records_at size read most (drop size a)) → Grows (suc most) a (records_at size read (suc most) a)
  unfolding records_at
  more_grows most a ih = grind (arith, nat_tests, length-append a b, take-append-le size a b, drop-append-le size a b, suc-sub-suc, sub-zero)

  pub records_grow : (most : ℕ) (a : List ℕ) → Grows most a (records_at size read most a)
  records_grow zero a = none_grows a
  records_grow (suc most) a = more_grows most a (records_grow most (drop size a))
