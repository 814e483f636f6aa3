-- What is read from a line has that line.
use Rattle.gr_model.proofs.Common.{◌≡◌, ℕ, ◌^◌, ◌<◌, Bool, true, false, cond, List, [], ◌∷◌, ◌++◌, zero, suc, Option, Some, None, refl, ap, subst, ◌∙◌, arith, decimal, codes, IfSome, nat_lt, ltb-true, nat_tests, same_Some}
use Rattle.gr_text.specs.Prelude.{Space, Scope, Order, Kind, Read, Write, Load, Store, Rmw, Name, Event, MOST_NAMES, Version, Line, space_word, scope_word, order_word, version_words, names_words, first_word, later_words, later_text, line_text, same, number_of, short_of, behind_space, first_of, at_end, space_said, scope_said, order_said, flags_said, header_said, name_said, names_said, kind_said, atomic_said, barrier_said, event_said, checked, end_said, line_said, IsSaid, ReadIsText}
use Rattle.gr_model.specs.Prelude.{IsKindOk, IsNamingOk}
use Rattle.gr_record.proofs.Places.{naming_found}
use Rattle.gr_text.specs.declared.line.Line.TheVariants as lines
use Rattle.gr_record.specs.Prelude.{most_items, is_naming_ok, is_order_ok, IsHeader, AreNamesOf}
use Rattle.gr_text.specs.LineReading.{◌>>=◌}
use Rattle.gr_text.proofs.LineNumbers.{each_some, number_told, same_told}
use Rattle.gr_text.proofs.LineWords.{cut_told, first_found}

-- ---- steps that did not fail

pub bind_some : {X Y : Type 0} (o : Option X) (f : X → Option Y) (y : Y) → (o >>= f) ≡ Some y → (x : X) × (o ≡ Some x) × (f x ≡ Some y)
bind_some None f y e = absurd cc
bind_some (Some x) f y e = (x, refl, e)

choose : {X : Type 0} (b : Bool) (o p : Option X) (y : X) → cond b o p ≡ Some y → (G : Type 0) → (b ≡ true → o ≡ Some y → G) → (p ≡ Some y → G) → G
choose true o p y e G this that = this refl e
choose false o p y e G this that = that e

-- ---- words

-- a number of 16 bits
short_found : (word : List ℕ) (n : ℕ) → short_of word ≡ Some n → (word ≡ decimal n) × (n < 2 ^ 16)
unfolding short_of
short_found word n e = grind (arith, nat_tests, number_told)

pub short_told : (word : List ℕ) → (short_of word ≡ short_of word) × IfSome (short_of word) (λ n. (word ≡ decimal n) × (n < 2 ^ 16))
short_told word = (refl, each_some (short_of word) _ (short_found word))

space_told : (word : List ℕ) → (space_said word ≡ space_said word) × IfSome (space_said word) (λ s. word ≡ space_word s)
unfolding space_said
space_told word = (refl, grind (arith, same_told))

-- a word, and what comes after its space
word_found : {X : Type 0} (bytes : List ℕ) (f : List ℕ → Option X) (x : X) → ((first_of bytes).1 >>= f) ≡ Some x → (rest : List ℕ) × (bytes ≡ (first_of bytes).0 ++ 32 ∷ rest) × (f rest ≡ Some x)
word_found bytes f x e =
    let b = bind_some _ f x e in
    (b.0, first_found 32 bytes ∙ ap (λ (rest : Option (List ℕ)). (first_of bytes).0 ++ behind_space rest) b.1, b.2)

-- ---- headers and names

header_told : (bytes : List ℕ) → (header_said bytes ≡ header_said bytes)
    × IfSome (header_said bytes) (λ h. IsHeader h × (bytes ≡ decimal h.group ++ later_text (codes "items" ∷ decimal h.items ∷ codes "launch" ∷ decimal h.launch ∷ version_words h.version)))
unfolding header_said
header_told bytes = (refl, grind (arith, nat_tests, cut_told, short_told, number_told, same_told))

name_found : (bytes : List ℕ) (x : Name × Option (List ℕ)) (words : List (List ℕ)) → name_said bytes ≡ Some x → behind_space x.1 ≡ later_text words → bytes ≡ codes "<" ++ later_text (decimal x.0.at.group ∷ decimal x.0.at.item ∷ decimal x.0.release ∷ words)
unfolding name_said
name_found bytes x words e behind = grind (arith, cut_told, short_told, number_told, same_told)

names_found : (rest : Option (List ℕ)) (most : ℕ) (names : List Name) → names_said rest most ≡ Some names → behind_space rest ≡ later_text (names_words names)
unfolding names_said
names_found None most names e = ap (λ (x : List Name). later_text (names_words x)) (same_Some [] names e)
names_found (Some rest) zero names e = absurd cc
names_found (Some rest) (suc most) names e =
    let b = bind_some _ _ _ e in
    let c = bind_some _ _ _ b.2 in
    let ih = names_found b.0.1 most c.0 c.1 in
    ap (λ (x : List ℕ). 32 ∷ x) (name_found rest b.0 (names_words c.0) b.1 ih) ∙ ap (λ (x : List Name). later_text (names_words x)) (same_Some (b.0.0 ∷ c.0) names c.2)

names_told : (rest : Option (List ℕ)) → (names_said rest MOST_NAMES ≡ names_said rest MOST_NAMES) × IfSome (names_said rest MOST_NAMES) (λ names. behind_space rest ≡ later_text (names_words names))
names_told rest = (refl, each_some (names_said rest MOST_NAMES) _ (names_found rest MOST_NAMES))

naming_told : (v : Version) (kind : Kind) (names : List Name) → (is_naming_ok v kind names ≡ is_naming_ok v kind names) × (is_naming_ok v kind names ≡ true → IsNamingOk kind names × AreNamesOf v names)
naming_told v kind names = (refl, naming_found v kind names)

-- ---- events

-- what comes after an item
Said : ℕ → List ℕ → Event → Type 0
Said item bytes e = (decimal item ++ 32 ∷ bytes ≡ line_text (lines.Event e)) × (e.word < 2 ^ 32) × IsNamingOk e.kind e.names × (is_order_ok e.kind ≡ true → IsKindOk e.kind e.item e.space e.word)

kind_found : (key : List ℕ) (scope : Scope) (order : Order) (k : Kind) → kind_said key scope order ≡ Some k → (e : Event) → decimal e.item ++ later_text (key ∷ space_word e.space ∷ decimal e.word ∷ scope_word scope ∷ order_word order ∷ names_words e.names) ≡ first_word k e.item ++ later_text (later_words k e)
unfolding kind_said
kind_found key scope order (Load s o) h e = grind (arith, same_told)
kind_found key scope order (Store s o) h e = grind (arith, same_told)
kind_found key scope order (Rmw s o) h e = grind (arith, same_told)
kind_found key scope order k h e = absurd (grind arith)

kind_ok : (key : List ℕ) (scope : Scope) (order : Order) (k : Kind) → kind_said key scope order ≡ Some k → (item : ℕ) (space : Space) (word : ℕ) → is_order_ok k ≡ true → IsKindOk k item space word
unfolding kind_said
kind_ok key scope order k h item space word ok = grind arith

atomic_told : (key : List ℕ) (item : ℕ) (space : Space) (word : ℕ) (bytes : List ℕ) → word < 2 ^ 32 → (atomic_said key item space word bytes ≡ atomic_said key item space word bytes) × IfSome (atomic_said key item space word bytes) (λ e. Said item (key ++ 32 ∷ (space_word space ++ 32 ∷ (decimal word ++ 32 ∷ bytes))) e)
unfolding atomic_said scope_said order_said Said
atomic_told key item space word bytes lt = (
  refl,
  each_some (atomic_said key item space word bytes) _ (λ e h.
      let a : (s : Scope) × (o : Order) × (kind_said key s o ≡ Some e.kind) × (bytes ≡ scope_word s ++ later_text (order_word o ∷ names_words e.names)) × IsNamingOk e.kind e.names × (item ≡ e.item) × (space ≡ e.space) × (word ≡ e.word) = grind (arith, cut_told, same_told, naming_told, names_told) in
      (rw (a.3, a.5, a.6, a.7) (kind_found key a.0 a.1 e.kind a.2 e), rw a.7 at lt, a.4, kind_ok key a.0 a.1 e.kind a.2 e.item e.space e.word)),
)

module _ (item : ℕ) (bytes key b c : List ℕ) (e : Event) (first : bytes ≡ key ++ 32 ∷ b) (second : b ≡ (first_of b).0 ++ 32 ∷ c) where
  bar_found : same key (codes "bar") ≡ true → at_end (first_of c).1 (barrier_said item (first_of b).0 (first_of c).0) ≡ Some e → Said item bytes e
  unfolding barrier_said flags_said Said
  bar_found is h = grind (arith, cut_told, number_told, same_told)

  access_found : (space_said (first_of b).0 >>= λ space. number_of (first_of c).0 >>= λ word.
      cond (same key (codes "r")) (at_end (first_of c).1 (Some (record { item = item; kind = Read; space = space; word = word; names = [] })))
      (cond (same key (codes "w")) (at_end (first_of c).1 (Some (record { item = item; kind = Write; space = space; word = word; names = [] })))
      ((first_of c).1 >>= λ d. atomic_said key item space word d))) ≡ Some e → Said item bytes e
  unfolding Said
  access_found h = let third = first_found 32 c in grind (arith, number_told, same_told, space_told, atomic_told)

event_found : (item : ℕ) (bytes : List ℕ) (e : Event) → event_said item bytes ≡ Some e → Said item bytes e
unfolding event_said
event_found item bytes e h =
    let b = word_found bytes _ e h in
    let c = word_found b.0 _ e b.2 in
    choose _ _ _ e c.2 (Said item bytes e) (bar_found item bytes _ b.0 c.0 e b.1 c.1) (access_found item bytes _ b.0 c.0 e b.1 c.1)

-- ---- whole lines

line_of_event : (v : Version) (item : ℕ) (bytes : List ℕ) (x e : Event) → Said item bytes x → checked v x ≡ Some e → IsSaid v (lines.Event e) × (decimal item ++ 32 ∷ bytes ≡ line_text (lines.Event e))
unfolding Said
line_of_event v item bytes x e said check =
    let p : (nat_lt x.item (most_items v) ≡ true) × (is_order_ok x.kind ≡ true) × (is_naming_ok v x.kind x.names ≡ true) × (x ≡ e) = grind arith in
    rw (← p.3) ((record { ok = (ltb-true _ _ p.0, said.2, said.3 p.1); word = said.1 }, (naming_found v x.kind x.names p.2).1), said.0)

module _ (v : Version) (bytes : List ℕ) (l : Line) where
  group_found : same (first_of bytes).0 (codes "group") ≡ true → ((first_of bytes).1 >>= λ b. header_said b >>= λ h. Some (lines.Header h)) ≡ Some l → IsSaid v l × (bytes ≡ line_text l)
  group_found key h = grind (arith, cut_told, same_told, header_told)

  end_found : same (first_of bytes).0 (codes "end") ≡ true → (end_said (first_of bytes).1 >>= λ e. Some (lines.Event e)) ≡ Some l → IsSaid v l × (bytes ≡ line_text l)
  end_found key h = grind (arith, cut_told, same_told)

  item_found : (short_of (first_of bytes).0 >>= λ item. (first_of bytes).1 >>= λ b. event_said item b >>= λ x. checked v x >>= λ e. Some (lines.Event e)) ≡ Some l → IsSaid v l × (bytes ≡ line_text l)
  item_found h =
      let i = bind_some _ _ l h in
      let b = word_found bytes _ l i.2 in
      let x = bind_some _ _ l b.2 in
      let c = bind_some _ _ l x.2 in
      let f = line_of_event v i.0 b.0 x.0 c.0 (event_found i.0 b.0 x.0 x.1) c.1 in
      subst (λ (y : Line). IsSaid v y × (bytes ≡ line_text y)) (same_Some _ l c.2) (f.0, b.1 ∙ ap (λ (w : List ℕ). w ++ 32 ∷ b.0) (short_found _ i.0 i.1).0 ∙ f.1)

pub read_is_text : ReadIsText
unfolding line_said
read_is_text v bytes l h =
    choose _ _ _ l h (IsSaid v l × (bytes ≡ line_text l)) (group_found v bytes l)
    (λ other. choose _ _ _ l other (IsSaid v l × (bytes ≡ line_text l)) (end_found v bytes l) (item_found v bytes l))
