-- Texts that are written one after the other.
use Rattle.gr_model.proofs.Common.{[], ◌∷◌, ◌≡◌, ℕ, List, ◌++◌, Option, Result, Ok, Err, refl, sym, ap, ◌∙◌, append_assoc, length, take, drop, arith, ◌+◌, ◌-◌, ◌<◌, get_or, IsErr, flat_map, Appends, Keeps, at_drop_more, append-nil, length-drop, take-append-drop, take_all}
use Rattle.std.proofs.KnownBytes.{Appends-trans, Appends-kept}
use Rattle.std.proofs.lemmas.List.Concat.{flat_map-cons}
use Rattle.gr_report.specs.declared.putting.WriteFault.{WriteFault}
use Rattle.gr_report.specs.Putting.{Puts, ended}

-- a text that was written whole, and then the next
pub puts_then : {old mid new : Option (List ℕ)} {x : Unit {0}} {r : Result (Unit {0}) WriteFault} {a b : List ℕ} → Puts old mid (Ok x) a → Puts mid new r b → Puts old new r (a ++ b)
puts_then {r = Ok y} h k = record { whole = Appends-trans _ _ _ _ _ h.whole k.whole; prefix = tt }
puts_then {r = Err e} {a = a} h k =
    let p = k.prefix in
    record { whole = tt; prefix = (a ++ p.0, p.1, ap (λ (v : List ℕ). a ++ v) p.2 ∙ sym (append_assoc a p.0 p.1), Appends-trans _ _ _ _ _ h.whole p.3) }

-- a text that failed, before another that is due
pub puts_more : {old new : Option (List ℕ)} {e : WriteFault} {a : List ℕ} (b : List ℕ) → Puts old new (Err e) a → Puts old new (Err e) (a ++ b)
puts_more b h =
    let p = h.prefix in
    record { whole = tt; prefix = (p.0, p.1 ++ b, ap (λ (v : List ℕ). v ++ b) p.2 ∙ append_assoc p.0 p.1 b, p.3) }

-- an error that is passed on
pub puts_err : {old new : Option (List ℕ)} {e : WriteFault} {a : List ℕ} (r : Result (Unit {0}) WriteFault) → IsErr r → Puts old new (Err e) a → Puts old new r a
puts_err (Ok x) i h = absurd cc
puts_err (Err d) i h = record { whole = tt; prefix = h.prefix }

-- what was written of the text before the rest of it
abbrev pub Prefix : Option (List ℕ) → Option (List ℕ) → List ℕ → List ℕ → Type 0
Prefix old new text rest = (prefix : List ℕ) × (text ≡ prefix ++ rest) × Appends old new prefix

-- a call that keeps what was written
pub puts_kept : {old mid new : Option (List ℕ)} {x : Unit {0}} {text : List ℕ} (r : Result (Unit {0}) WriteFault) → Puts old mid (Ok x) text → Keeps mid new → Puts old new r text
puts_kept (Ok y) h k = record { whole = Appends-kept _ _ _ _ h.whole k; prefix = tt }
puts_kept {text = text} (Err e) h k = record { whole = tt; prefix = (text, [], sym (append-nil text), Appends-kept _ _ _ _ h.whole k) }

pub Prefix-more : (old mid new : Option (List ℕ)) (text rest : List ℕ) (n : ℕ) → Prefix old mid text rest → Appends mid new (take n rest) → Prefix old new text (take (length rest - n) (drop n rest))
Prefix-more old mid new text rest n f h =
    let whole : take (length rest - n) (drop n rest) ≡ drop n rest = take_all (length rest - n) (drop n rest) (omega (arith, length-drop n rest)) in
    rw whole (f.0 ++ take n rest, f.1 ∙ ap (λ (v : List ℕ). f.0 ++ v) (sym (take-append-drop n rest)) ∙ sym (append_assoc f.0 (take n rest) (drop n rest)), Appends-trans old mid new f.0 (take n rest) f.2 h)

-- texts that are written, and then what ends the line
pub ended_is : {X : Type 0} (text : X → List ℕ) (xs : List X) (end : List ℕ) → ended text xs end ≡ flat_map text xs ++ end
ended_is text [] end = refl
ended_is text (x ∷ xs) end = ap (λ (v : List ℕ). text x ++ v) (ended_is text xs end) ∙ sym (append_assoc (text x) (flat_map text xs) end)

-- ---- a list of lines

flat_map-drop : {X : Type 0} (f : X → List ℕ) (xs : List X) (i : ℕ) (x : X) → i < length xs → x ≡ get_or xs i x → flat_map f (drop i xs) ≡ f x ++ flat_map f (drop (i + 1) xs)
flat_map-drop {X = X} f xs i x lt is =
    at_drop_more (flat_map f) xs i x lt ∙ flat_map-cons f (get_or xs i x) (drop (i + 1) xs) ∙ ap (λ (y : X). f y ++ flat_map f (drop (i + 1) xs)) (sym is)

module _ {X : Type 0} (f : X → List ℕ) (xs : List X) (i : ℕ) (x : X) (old mid new : Option (List ℕ)) (text : List ℕ) (so_far : Prefix old mid text (flat_map f (drop i xs))) (lt : i < length xs) (is : x ≡ get_or xs i x) where
  pub lines_next : (u : Unit {0}) → Puts mid new (Ok u) (f x) → Prefix old new text (flat_map f (drop (i + 1) xs))
  lines_next u h =
      let rest = flat_map f (drop (i + 1) xs) in
      (so_far.0 ++ f x, so_far.1 ∙ ap (λ (v : List ℕ). so_far.0 ++ v) (flat_map-drop f xs i x lt is) ∙ sym (append_assoc so_far.0 (f x) rest), Appends-trans old mid new so_far.0 (f x) so_far.2 h.whole)

  pub lines_fail : (e : WriteFault) → Puts mid new (Err e) (f x) → Puts old new (Err e) text
  lines_fail e h =
      let rest = flat_map f (drop (i + 1) xs) in
      let due : Puts old new (Err e) (so_far.0 ++ (f x ++ rest)) = puts_then {x = tt} (record { whole = so_far.2; prefix = tt }) (puts_more rest h) in
      rw (so_far.1, flat_map-drop f xs i x lt is) due
