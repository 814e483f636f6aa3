use Rattle.gr_model.proofs.Common.{◌≡◌, ◌^◌, ◌<◌, ℕ, List, Some, None, cond, sym, ap, ◌∙◌, arith, inl, inr, decimal, cases_Bool}
use Rattle.std.proofs.lemmas.Fmt.{IsAscii-decimal, parse-decimal}
use Rattle.std.proofs.lemmas.Str.{IsUtf8-from_ascii}
use Rattle.gr_text.specs.Prelude.{same, number_of}
use Rattle.gr_text.proofs.LineNumbers.{number_back, number_none, same_is, same_self}
use Rattle.gr_text.proofs.words.parse_number.Goals as goal

-- where a word could only be the text of one number, it says that number if it is that text
only_number : (word : List ℕ) (n : ℕ) → n < 2 ^ 32 → ((m : ℕ) → m < 2 ^ 32 → word ≡ decimal m → m ≡ n) → cond (same word (decimal n)) (Some n) None ≡ number_of word
only_number word n lt only =
    elim (cases_Bool (same word (decimal n))) [
      | inl is ↦ rw is (sym (ap number_of (same_is word (decimal n) is) ∙ number_back n lt))
      | inr other ↦ rw other (sym (number_none word (λ m less is. cc (only m less is, same_self (decimal n)))))
    ]

pub returns-in_default : goal.returns-in_default
returns-in_default c = sym (number_none c.args.word.now (λ n lt is. c.in_default.ensures.cases.0 (rw is (IsUtf8-from_ascii (decimal n) (IsAscii-decimal n (omega arith))))))

pub returns-in_default-parse : goal.returns-in_default-parse
returns-in_default-parse c =
    sym (number_none c.args.word.now (λ n lt is. cc (c.in_default-parse.is, parse-decimal 32 n _ _ lt (omega arith) (c.in-Ok.ensures.cases.0 ∙ is) c.parse.ensures.value.0)))

pub returns : goal.returns
returns c =
    let said = only_number c.args.word.now c.in-Ok-parse.number (omega (arith, c.in-Ok-parse.ensures.value)) (λ m less is. cc (c.in-Ok-parse.is, parse-decimal 32 m _ _ less (omega arith) (c.in-Ok.ensures.cases.0 ∙ is) c.parse.ensures.value.0)) in
    grind (arith, said)
