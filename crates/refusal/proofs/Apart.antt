-- What is said of a refusal gives its parts back. Assumes nothing.
use Prim.Native.Nat.{ℕ}
use mathlib.Core.Path.{◌≡◌, ap}
use Rattle.refusal.specs.Said.{Said, ok, no_by, no}

abbrev number_of : Said → ℕ
number_of (ok l) = 0
number_of (no_by r) = r.number

abbrev place_of : Said → ℕ
place_of (ok l) = 0
place_of (no_by r) = r.place

pub one_number : {n p m q : ℕ} → no n p ≡ no m q → n ≡ m
one_number e = ap number_of e

pub one_place : {n p m q : ℕ} → no n p ≡ no m q → p ≡ q
one_place e = ap place_of e
