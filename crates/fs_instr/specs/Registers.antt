-- The names of registers.
use Rattle.std.specs.Prelude.{ℕ, List, [], ◌∷◌, Option, codes}
use Rattle.fs_instr.specs.Rows.{look_up}
pub use Rattle.fs_instr.specs.Roles.{named}
use Rattle.std.specs.Option.{option_or}

-- x0 to x10
unfoldable pub low_x : List (List ℕ × ℕ)
low_x =
    (codes "x0", 0) ∷
    (codes "x1", 1) ∷
    (codes "x2", 2) ∷
    (codes "x3", 3) ∷
    (codes "x4", 4) ∷
    (codes "x5", 5) ∷
    (codes "x6", 6) ∷
    (codes "x7", 7) ∷
    (codes "x8", 8) ∷
    (codes "x9", 9) ∷
    (codes "x10", 10) ∷
    []

-- x11 to x21
unfoldable pub middle_x : List (List ℕ × ℕ)
middle_x =
    (codes "x11", 11) ∷
    (codes "x12", 12) ∷
    (codes "x13", 13) ∷
    (codes "x14", 14) ∷
    (codes "x15", 15) ∷
    (codes "x16", 16) ∷
    (codes "x17", 17) ∷
    (codes "x18", 18) ∷
    (codes "x19", 19) ∷
    (codes "x20", 20) ∷
    (codes "x21", 21) ∷
    []

-- x22 to x31
unfoldable pub high_x : List (List ℕ × ℕ)
high_x =
    (codes "x22", 22) ∷
    (codes "x23", 23) ∷
    (codes "x24", 24) ∷
    (codes "x25", 25) ∷
    (codes "x26", 26) ∷
    (codes "x27", 27) ∷
    (codes "x28", 28) ∷
    (codes "x29", 29) ∷
    (codes "x30", 30) ∷
    (codes "x31", 31) ∷
    []

-- the names of x0 to x9
unfoldable pub first_names : List (List ℕ × ℕ)
first_names =
    (codes "zero", 0) ∷
    (codes "ra", 1) ∷
    (codes "sp", 2) ∷
    (codes "gp", 3) ∷
    (codes "tp", 4) ∷
    (codes "t0", 5) ∷
    (codes "t1", 6) ∷
    (codes "t2", 7) ∷
    (codes "s0", 8) ∷
    (codes "fp", 8) ∷
    (codes "s1", 9) ∷
    []

-- the names of x10 to x17
unfoldable pub arguments : List (List ℕ × ℕ)
arguments =
    (codes "a0", 10) ∷
    (codes "a1", 11) ∷
    (codes "a2", 12) ∷
    (codes "a3", 13) ∷
    (codes "a4", 14) ∷
    (codes "a5", 15) ∷
    (codes "a6", 16) ∷
    (codes "a7", 17) ∷
    []

-- the names of x18 to x31
unfoldable pub last_names : List (List ℕ × ℕ)
last_names =
    (codes "s2", 18) ∷
    (codes "s3", 19) ∷
    (codes "s4", 20) ∷
    (codes "s5", 21) ∷
    (codes "s6", 22) ∷
    (codes "s7", 23) ∷
    (codes "s8", 24) ∷
    (codes "s9", 25) ∷
    (codes "s10", 26) ∷
    (codes "s11", 27) ∷
    (codes "t3", 28) ∷
    (codes "t4", 29) ∷
    (codes "t5", 30) ∷
    (codes "t6", 31) ∷
    []

-- the register of this name
unfoldable pub register_of : List ℕ → Option ℕ
register_of word =
    option_or (look_up low_x word) (
    option_or (look_up middle_x word) (
    option_or (look_up high_x word) (
    option_or (look_up first_names word) (
    option_or (look_up arguments word) (
    look_up last_names word)))))
