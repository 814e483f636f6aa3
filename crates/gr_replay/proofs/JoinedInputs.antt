-- Inputs, each of which is one stream, and their bytes one after another.
use Rattle.gr_model.proofs.Common.{◌≡◌, ℕ, zero, suc, ◌≤◌, List, [], ◌∷◌, ◌++◌, length, All, Result, Ok, refl, sym, ◌∙◌, subst, arith, length-append}
use Rattle.gr_record.specs.declared.fault.Fault.{Fault}
use Rattle.gr_intake.specs.Joined.{Flat, ◌>>=◌, joined_at, joined_of}
use Rattle.gr_intake.specs.Launch.{Reads}
use Rattle.gr_intake.specs.Laws.{AreStreams}
use Rattle.gr_intake.proofs.Accepted.{stream_is_one}
use Rattle.gr_intake.proofs.Faults.{same_ok, then_ok}
use Rattle.gr_intake.proofs.Seen.{front_is}
use Rattle.gr_replay.specs.Each.{ReadsEach, each_at, each_of, only_stream_at}
use Rattle.gr_replay.specs.Replays.{IsExact, IsExactOfEach}
use Rattle.gr_replay.specs.Laws.{InputsAreJoined, IsOneStream, JoinedReportIsEqual, JoinedReportIsSame, joined}
use Rattle.gr_replay.proofs.Alone.{IsStreamOf, checked, only_is, only_on, only_read, stream_on}
use Rattle.gr_replay.proofs.Joining.{nothing_left}
use Rattle.gr_replay.proofs.OneLaunch.{bytes_have_one_report}

-- the inputs are these streams
abbrev pub AreStreamsOf : List (List ℕ) → List Flat → Type 0
AreStreamsOf [] [] = Unit {0}
AreStreamsOf (bytes ∷ inputs) (f ∷ fs) = IsStreamOf bytes f × AreStreamsOf inputs fs
AreStreamsOf [] (f ∷ fs) = ⊥
AreStreamsOf (bytes ∷ inputs) [] = ⊥

-- these streams, and others after them, of different groups and of one launch; or why they are none
abbrev pub all_checked : List Flat → List Flat → Result (List Flat) Fault
all_checked seen [] = Ok seen
all_checked seen (f ∷ fs) = checked seen f >>= λ g. all_checked (seen ++ g ∷ []) fs

pub each_checked : (inputs : List (List ℕ)) (fs seen : List Flat) → AreStreamsOf inputs fs → each_at seen inputs ≡ all_checked seen fs
unfolding each_at
each_checked [] [] seen are = refl
each_checked [] (f ∷ fs) seen are = absurd are
each_checked (bytes ∷ inputs) [] seen are = absurd are
each_checked (bytes ∷ inputs) (f ∷ fs) seen are = grind (arith, only_on seen bytes f are.0, each_checked inputs fs (seen ++ f ∷ []) are.1)

pub joined_checked : (n : ℕ) (inputs : List (List ℕ)) (fs seen : List Flat) → AreStreamsOf inputs fs → length (joined inputs) ≤ n → joined_at n seen (joined inputs) ≡ all_checked seen fs
unfolding joined_at
joined_checked n [] [] seen are le = nothing_left n seen [] refl
joined_checked n [] (f ∷ fs) seen are le = absurd are
joined_checked n (bytes ∷ inputs) [] seen are le = absurd are
joined_checked zero (bytes ∷ inputs) (f ∷ fs) seen are le = let long = (front_is bytes f.header are.0.behind are.0.header).long in absurd (omega (arith, length-append bytes (joined inputs)))
joined_checked (suc n) (bytes ∷ inputs) (f ∷ fs) seen are le =
    let long = (front_is bytes f.header are.0.behind are.0.header).long in
    grind (arith, length-append bytes (joined inputs), stream_on seen bytes (joined inputs) f are.0, joined_checked n inputs fs (seen ++ f ∷ []) are.1)

pub all_of : (inputs : List (List ℕ)) (fs : List Flat) → AreStreamsOf inputs fs → joined_of (joined inputs) ≡ all_checked [] fs
all_of inputs fs are = joined_checked (length (joined inputs)) inputs fs [] are (omega arith)

pub same_of : (inputs : List (List ℕ)) (fs : List Flat) → AreStreamsOf inputs fs → joined_of (joined inputs) ≡ each_of inputs
same_of inputs fs are = all_of inputs fs are ∙ sym (each_checked inputs fs [] are)

-- ---- inputs that are read are one stream each

pub each_is : (inputs : List (List ℕ)) (seen out : List Flat) → each_at seen inputs ≡ Ok out → (fs : List Flat) × AreStreamsOf inputs fs
unfolding each_at
each_is [] seen out is = ([], tt)
each_is (bytes ∷ inputs) seen out is =
    let (f, one, later) = then_ok (only_stream_at seen bytes) (λ f. each_at (seen ++ f ∷ []) inputs) out is in
    let more = each_is inputs (seen ++ f ∷ []) out later in
    (f ∷ more.0, (only_is seen bytes f one, more.1))

-- and of different groups and one launch, each a list that its group may have
pub each_are : (inputs : List (List ℕ)) (seen out : List Flat) → AreStreams seen → each_at seen inputs ≡ Ok out → AreStreams out
unfolding each_at
each_are [] seen out are is = subst AreStreams (same_ok {E = Fault} seen out is) are
each_are (bytes ∷ inputs) seen out are is =
    let (f, one, later) = then_ok (only_stream_at seen bytes) (λ f. each_at (seen ++ f ∷ []) inputs) out is in
    each_are inputs (seen ++ f ∷ []) out (stream_is_one seen bytes are f [] (only_read seen bytes f one)) later

pub all_one : (inputs : List (List ℕ)) (fs : List Flat) → AreStreamsOf inputs fs → All IsOneStream inputs
all_one [] fs are = λ k d lt. absurd (omega (arith, lt))
all_one (bytes ∷ inputs) [] are = absurd are
all_one (bytes ∷ inputs) (f ∷ fs) are = by_place (all_one inputs fs are.1)
  where
    by_place : All IsOneStream inputs → All IsOneStream (bytes ∷ inputs)
    by_place later zero d lt = (f, only_on [] bytes f are.0)
    by_place later (suc k) d lt = later k d (omega (arith, lt))

pub one_all : (inputs : List (List ℕ)) → All IsOneStream inputs → (fs : List Flat) × AreStreamsOf inputs fs
one_all [] all = ([], tt)
one_all (bytes ∷ inputs) all =
    let one : IsOneStream bytes = all zero bytes (omega arith) in
    let more = one_all inputs (λ k d lt. all (suc k) d (omega (arith, lt))) in
    (one.0 ∷ more.0, (only_is [] bytes one.0 one.1, more.1))

pub inputs_are_joined : InputsAreJoined
inputs_are_joined inputs s = (there, back)
  where
    there : ReadsEach inputs s → All IsOneStream inputs × Reads (joined inputs) s
    there (seen, is, launch) = let a = each_is inputs [] seen is in (all_one inputs a.0 a.1, (seen, same_of inputs a.0 a.1 ∙ is, launch))

    back : All IsOneStream inputs × Reads (joined inputs) s → ReadsEach inputs s
    back (all, (seen, is, launch)) = let a = one_all inputs all in (seen, sym (same_of inputs a.0 a.1) ∙ is, launch)

pub joined_report_is_same : JoinedReportIsSame
joined_report_is_same inputs r = (there, back)
  where
    there : IsExactOfEach inputs r → All IsOneStream inputs × IsExact (joined inputs) r
    there e = let a = (inputs_are_joined inputs e.launch).0 e.spelled in (a.0, record { launch = e.launch; spelled = a.1; accepted = e.accepted; exact = e.exact })

    back : All IsOneStream inputs × IsExact (joined inputs) r → IsExactOfEach inputs r
    back (all, e) = record { launch = e.launch; spelled = (inputs_are_joined inputs e.launch).1 (all, e.spelled); accepted = e.accepted; exact = e.exact }

pub joined_report_is_equal : JoinedReportIsEqual
joined_report_is_equal inputs r q a b = bytes_have_one_report (joined inputs) r q ((joined_report_is_same inputs r).0 a).1 b
