-- What a table means, a map from numbers to records, and what each method makes of it.
use Rattle.std.specs.Prelude.{◌≡◌, ℕ, zero, suc, ◌+◌, ◌<◌, ◌≤◌, Bool, true, cond, ◌&&◌, is_some, Some, None, Ok, Err, Option, Result, ◌==◌, nat_le}
use Rattle.tables.specs.declared.entry.Entry.{Entry}

abbrev pub Map : Type 0 → Type 0
Map B = ℕ → Option (Entry B)

-- a table by what it means: its first and its last number, and the record under each number
pub record View (B : Type 0) : Type 0 where
  pub low : ℕ
  pub high : ℕ
  pub at : Map B

abbrev pub inside : ℕ → ℕ → ℕ → Bool
inside low high n = nat_le low n && nat_le n high

-- the number that a walk looks from: one past what it has met
abbrev pub start : Option ℕ → ℕ
start None = 0
start (Some a) = a + 1

module _ {B : Type 0} where
  abbrev pub bare : ℕ → ℕ → View B
  bare low high = record { low = low; high = high; at = λ n. None }

  abbrev pub put_answer : View B → Entry B → Result (Unit {0}) (Entry B)
  put_answer v e = cond (inside v.low v.high e.number) (Ok tt) (Err e)

  abbrev pub putting : ℕ → ℕ → Map B → Entry B → Map B
  putting low high f e n = cond (inside low high e.number && n == e.number) (Some e) (f n)

  abbrev pub removing : Map B → ℕ → Map B
  removing f k n = cond (n == k) None (f n)

  abbrev pub one : Option (Entry B) → ℕ
  one o = cond (is_some o) 1 0

  -- how many numbers below n have a record
  unfoldable pub many : Map B → ℕ → ℕ
  many f zero = 0
  many f (suc n) = many f n + one (f n)

  abbrev pub count_of : View B → ℕ
  count_of v = many v.at (suc v.high)

  -- k is the smallest number from a on that has a record
  pub record Least (f : Map B) (a k : ℕ) : Type 0 where
    pub from : a ≤ k
    pub there : is_some (f k) ≡ true
    pub none_before : (n : ℕ) → a ≤ n → n < k → f n ≡ None

  -- the smallest, or none
  abbrev pub Next : Map B → ℕ → Option ℕ → Type 0
  Next f a None = (n : ℕ) → a ≤ n → f n ≡ None
  Next f a (Some k) = Least f a k
