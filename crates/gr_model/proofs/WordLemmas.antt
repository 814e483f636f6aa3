-- The order of words.
use Rattle.gr_model.proofs.Common.{◌≡◌, true, arith, nat_tests}
use Rattle.std.specs.declared.cmp.Ordering.TheVariants.{Less}
use Rattle.std.specs.Ordering.{eq_by_cmp}
use Rattle.gr_model.specs.declared.event.Word.{Word}
use Rattle.gr_model.specs.Prelude.{WordBelow}
use Rattle.gr_model.specs.contracts.event.WordOrd.TheImpl as order
use Rattle.gr_model.specs.contracts.event.WordPartialEq.TheImpl as equality

pub below_from_less : (v w : Word) → (order.cmp-value).it v w ≡ Less → WordBelow v w
below_from_less v w e = grind (arith, nat_tests)

pub same_from_equal : (v w : Word) → (equality.eq-value).it v w ≡ true → v ≡ w
same_from_equal v w e = grind (arith, nat_tests)

-- words are equal where neither comes first
pub ties : (v w : Word) → (equality.eq-value).it v w ≡ eq_by_cmp (order.cmp-value).it v w
ties v w = grind (arith, nat_tests)
