-- A line has no line feed, and no `@` but that of its site; with its site it is read from its text, and what is read has that text.
use Rattle.gr_model.proofs.Common.{◌≡◌, ℕ, suc, ◌^◌, ◌<◌, Bool, true, List, [], ◌∷◌, ◌++◌, All, refl, ap, arith, ◌+◌, ◌-◌, length, take, Some, None, append_assoc, append-nil, length-append, take_at, drop_at, take-append-drop, IfSome, nat_lt, not, ◌==◌, ◌&&◌, decimal, list_all-append, and_parts, nat_tests}
use Rattle.gr_text.specs.Prelude.{Name, Event, Version, Line, SitedLine, IsSaid, IsSiteOf, IsSitedSaid, SitedTextIsRead, SitedReadIsText, line_said, IsWithout, cut_at, unspaced, sited_said, line_text, sited_text, site_text, names_words, later_text}
use Rattle.gr_model.specs.Prelude.{IsNameInRange}
use Rattle.gr_record.proofs.Places.{each_in_range, header_group, header_items, items_within}
use Rattle.gr_text.specs.declared.line.Line.TheVariants as lines
use Rattle.gr_text.proofs.LineWords.{are, are-append, are_weaker, are_without, is_digit, decimal_digits, first_back, cut_told, short_again}
use Rattle.gr_text.proofs.LinesFound.{short_told, read_is_text}
use Rattle.gr_text.proofs.LineNumbers.{each_some, same_self, same_told}
use Rattle.gr_text.proofs.LinesAgain.{text_is_read}

-- each byte is above that of a line feed, and none is `@`
abbrev is_plain : ℕ → Bool
is_plain b = nat_lt 10 b && not (b == 64)

abbrev ArePlain : List ℕ → Type 0
ArePlain bytes = are is_plain bytes ≡ true

number_plain : (n : ℕ) → n < 2 ^ 32 → ArePlain (decimal n)
number_plain n lt = are_weaker is_digit is_plain (λ b h. grind (arith, nat_tests)) (decimal n) (decimal_digits n lt)

names_plain : (names : List Name) → All IsNameInRange names → ArePlain (later_text (names_words names))
names_plain [] each = refl
names_plain (n ∷ names) each =
    let here = each 0 n (omega arith) in
    let ih = names_plain names (λ k d lt. each (suc k) d (omega arith)) in
    grind (arith, list_all-append, number_plain, here, ih)

pub line_plain : (v : Version) (x : Line) → IsSaid v x → ArePlain (line_text x)
line_plain v (lines.Header h) ok = grind (arith, list_all-append, number_plain, header_group h ok, header_items h ok)
line_plain v (lines.Event e) (ok, range) =
    let few = items_within v in
    let names = names_plain e.names (each_in_range e.kind e.names ok.ok.1) in
    grind (arith, list_all-append, number_plain, names, few)

-- ---- with its site

pub plain_without : (bytes : List ℕ) → ArePlain bytes → IsWithout 64 bytes
plain_without bytes h = are_without is_plain 64 refl bytes h

-- each byte is above that of a line feed
abbrev pub AreAbove : List ℕ → Type 0
AreAbove bytes = are (nat_lt 10) bytes ≡ true

plain_above : (bytes : List ℕ) → ArePlain bytes → AreAbove bytes
plain_above bytes h = are_weaker is_plain (nat_lt 10) (λ b k. (and_parts _ _ k).0) bytes h

site_above : (site : ℕ) → site < 2 ^ 16 → AreAbove (site_text site)
site_above site lt = let above = plain_above (decimal site) (number_plain site (omega arith)) in grind arith

pub sited_above : (v : Version) (l : SitedLine) → IsSaid v l.line → l.site < 2 ^ 16 → AreAbove (sited_text l)
sited_above v l said lt = are-append (nat_lt 10) (line_text l.line) (site_text l.site) (plain_above (line_text l.line) (line_plain v l.line said)) (site_above l.site lt)

-- ---- a space at the end

unspaced_told : (bytes : List ℕ) → (unspaced bytes ≡ unspaced bytes) × IfSome (unspaced bytes) (λ front. bytes ≡ front ++ 32 ∷ [])
unfolding unspaced
unspaced_told bytes = (refl, grind (arith, same_told, take-append-drop))

unspaced_back : (front : List ℕ) → unspaced (front ++ 32 ∷ []) ≡ Some front
unfolding unspaced
unspaced_back front =
    let k : length (front ++ 32 ∷ []) - 1 ≡ length front + 0 = omega (arith, length-append front (32 ∷ [])) in
    let z : length front + 0 ≡ length front = omega arith in
    rw (k, z, drop_at front (32 ∷ []) (length front) refl, take_at front (32 ∷ []) (length front) refl, same_self (32 ∷ [])) refl

-- ---- whole lines

no_site : (v : Version) (l : Line) → IsSiteOf v l 0
no_site v l = grind arith

-- the same of the parts of a line
sited_again : (v : Version) (line : Line) (site : ℕ) → IsSaid v line → IsSiteOf v line site → sited_said v (line_text line ++ site_text site) ≡ Some (record { line = line; site = site })
unfolding sited_said
sited_again v line site said ok =
    let plain = line_plain v line said in
    let spaced : ArePlain (line_text line ++ 32 ∷ []) = are-append is_plain (line_text line) (32 ∷ []) plain refl in
    let alone : cut_at 64 (line_text line) ≡ (line_text line, None) = rw (append-nil (line_text line)) at (first_back 64 (line_text line) None (plain_without (line_text line) plain)) in
    let cut = first_back 64 (line_text line ++ 32 ∷ []) (Some (decimal site)) (plain_without (line_text line ++ 32 ∷ []) spaced) in
    grind (arith, nat_tests, append_assoc, append-nil, alone, cut, short_again site, unspaced_back (line_text line), text_is_read v line said)

pub sited_text_is_read : SitedTextIsRead
sited_text_is_read v l (said, ok) = sited_again v l.line l.site said ok

pub line_told : (v : Version) (bytes : List ℕ) → (line_said v bytes ≡ line_said v bytes) × IfSome (line_said v bytes) (λ l. IsSaid v l × (bytes ≡ line_text l))
line_told v bytes = (refl, each_some (line_said v bytes) _ (read_is_text v bytes))

pub sited_read_is_text : SitedReadIsText
unfolding sited_said
sited_read_is_text v bytes l h = grind (arith, cut_told, short_told, line_told, unspaced_told, no_site, append_assoc)

pub sited_told : (v : Version) (bytes : List ℕ) → (sited_said v bytes ≡ sited_said v bytes) × IfSome (sited_said v bytes) (λ l. IsSitedSaid v l × (bytes ≡ sited_text l))
sited_told v bytes = (refl, each_some (sited_said v bytes) _ (sited_read_is_text v bytes))
