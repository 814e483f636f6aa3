-- Numbers of two, four and eight bytes, and the numbers of spaces, scopes, orders and flags.
use Rattle.gr_model.proofs.Common.{◌≡◌, ℕ, suc, ◌+◌, ◌-◌, ◌*◌, ◌/◌, ◌%◌, ◌<◌, true, arith, nat_lt, nat_le, ◌==◌, ◌||◌, ◌&&◌}
use Rattle.gr_record.specs.Prelude.{Space, Scope, Order, space_byte, scope_byte, order_byte, space_of, scope_of, order_of}

-- a loop that counts from i to n has one step to go, and those after it
pub one_left : (n i : ℕ) → i < n → n - i ≡ suc (n - (i + 1))
one_left n i lt = omega arith

-- ---- from bytes to a number and back

pub two : (a b : ℕ) → a < 256 → b < 256 → ((a + 256 * (b + 0)) % 256 ≡ a) × ((a + 256 * (b + 0)) / 256 % 256 ≡ b)
two a b f g = omega arith

pub four : (a b c d : ℕ) → a < 256 → b < 256 → c < 256 → d < 256 → (n : ℕ) → n ≡ a + 256 * (b + 256 * (c + 256 * (d + 0)))
    → (n % 256 ≡ a) × (n / 256 % 256 ≡ b) × (n / 65536 % 256 ≡ c) × (n / 16777216 % 256 ≡ d)
four a b c d p q r s n k = omega arith

-- ---- from a number to bytes and back

pub two_again : (n : ℕ) → n < 65536 → n % 256 + 256 * (n / 256 % 256 + 0) ≡ n
two_again n lt = omega arith

pub four_again : (n : ℕ) → n < 4294967296 → n % 256 + 256 * (n / 256 % 256 + 256 * (n / 65536 % 256 + 256 * (n / 16777216 % 256 + 0))) ≡ n
four_again n lt = omega arith

-- ---- the single bytes

pub space_back : (s : Space) → (space_of (space_byte s) ≡ s) × (nat_lt (space_byte s) 2 ≡ true)
space_back s = grind arith

pub scope_back : (s : Scope) → (scope_of (scope_byte s) ≡ s) × (((scope_byte s == 1) || (scope_byte s == 2)) ≡ true)
scope_back s = grind arith

pub order_back : (o : Order) → (order_of (order_byte o) ≡ o) × ((nat_le 1 (order_byte o) && nat_le (order_byte o) 4) ≡ true)
order_back o = grind arith
