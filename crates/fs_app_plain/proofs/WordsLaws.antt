-- The laws of words and their extensions: branches go the same way, and addresses of locations are the same.
use Rattle.std.proofs.Common.{◌≡◌, ℕ, ◌+◌, ◌^◌, ◌<◌, ◌≤◌, not, ℤ, pos, negsuc, Some, List, map, if◌then◌else◌, refl, sym, ap, ◌∙◌, arith}
use Rattle.std.proofs.Math.ListN.{get_or-map}
use Rattle.fs_kinds.specs.Limits.{most_locations}
use Rattle.fs_instr.specs.OfTable.{IsImmediate, IsOfTable}
use Rattle.fs_instr.specs.declared.names.BranchOp.{BranchOp}
use Rattle.fs_instr.specs.declared.names.BranchOp.TheVariants as branch
use Rattle.fs_instr.specs.declared.instr.Instr.{Instr}
use Rattle.fs_instr.specs.declared.instr.Instr.TheVariants.{Register, Immediate, Shift, Lui, Li, Lw, Sw, Lr, Sc, Amo, Branch, Jump, Fence, FenceTso, FenceI}
use Rattle.fs_model.specs.Instructions as words
use Rattle.fs_model.specs.Instructions.{read}
use Rattle.fs_model.specs.Runs.{IsDeclared, address_of}
use Rattle.fs_app_plain.specs.Instructions64.{extended, doubleword_of, add, does_branch, address_in, next_after}
use Rattle.fs_app_plain.proofs.Given.{AreWords, WordLaws}
use Rattle.fs_app_plain.proofs.WordsExtended.{extended_by_sign, extended_zero, extended_one, extended_fits, extended_injective, extended_small, extended_less_test, extended_same_test, extended_less_signed}
use Rattle.fs_app_plain.proofs.WordsMade.{read_word, result_word, stored_word}

pub read_extended : (x : List ℕ) (r : ℕ) → read (map extended x) r ≡ extended (read x r)
read_extended x r = get_or-map extended x r 0

-- ---- branches

pub does_branch_extended : (o : BranchOp) (a b : ℕ) → a < 2 ^ 32 → b < 2 ^ 32
    → does_branch o (extended a) (extended b) ≡ words.does_branch o a b
does_branch_extended branch.Beq a b p q = extended_same_test a b p q
does_branch_extended branch.Bne a b p q = ap not (extended_same_test a b p q)
does_branch_extended branch.Blt a b p q = extended_less_signed a b
does_branch_extended branch.Bge a b p q = ap not (extended_less_signed a b)
does_branch_extended branch.Bltu a b p q = extended_less_test a b p q
does_branch_extended branch.Bgeu a b p q = ap not (extended_less_test a b p q)

pub next_extended : (x : List ℕ) (at : ℕ) (i : Instr) → AreWords x
    → next_after (map extended x) at i ≡ words.next_after x at i
next_extended x at (Register o rd a b) w = refl
next_extended x at (Immediate o rd a z) w = refl
next_extended x at (Shift o rd a n) w = refl
next_extended x at (Lui rd n) w = refl
next_extended x at (Li rd n) w = refl
next_extended x at (Lw ann rd a z) w = refl
next_extended x at (Sw ann v a z) w = refl
next_extended x at (Lr ann rd a) w = refl
next_extended x at (Sc ann rd v a) w = refl
next_extended x at (Amo o ann rd v a) w = refl
next_extended x at (Branch o a b target) w =
    ap (λ v. if does_branch o v (read (map extended x) b) then target else at + 1) (read_extended x a)
    ∙ ap (λ v. if does_branch o (extended (read x a)) v then target else at + 1) (read_extended x b)
    ∙ ap (λ c. if c then target else at + 1)
    (does_branch_extended o (read x a) (read x b) (read_word x a w) (read_word x b w))
next_extended x at (Jump target) w = refl
next_extended x at (Fence before after) w = refl
next_extended x at FenceTso w = refl
next_extended x at FenceI w = refl

-- ---- addresses

same : {a b : ℕ} → Some a ≡ Some b → a ≡ b
same h = cc

pub location_extended : (a k : ℕ) → k < 8 → a ≡ address_of k → extended a ≡ a
location_extended a k near e = extended_small a (omega (arith, near, e))

pub location_back : (a k : ℕ) → a < 2 ^ 32 → k < 8 → extended a ≡ address_of k → extended a ≡ a
location_back a k p near e = let f = extended_by_sign a p in omega (arith, p, near, e, f)

pub sum_extended : (a k : ℕ) (z : ℤ) → a < 2 ^ 32 → IsImmediate z → k < 8 → words.add a (words.word_of z) ≡ address_of k
    → add (extended a) (doubleword_of z) ≡ address_of k
sum_extended a k (pos n) p s near e = let f = extended_by_sign a p in omega (arith, p, s, near, e, f)
sum_extended a k (negsuc n) p s near e = let f = extended_by_sign a p in omega (arith, p, s, near, e, f)

pub sum_back : (a k : ℕ) (z : ℤ) → a < 2 ^ 32 → IsImmediate z → k < 8
    → add (extended a) (doubleword_of z) ≡ address_of k → words.add a (words.word_of z) ≡ address_of k
sum_back a k (pos n) p s near e = let f = extended_by_sign a p in omega (arith, p, s, near, e, f)
sum_back a k (negsuc n) p s near e = let f = extended_by_sign a p in omega (arith, p, s, near, e, f)

-- both sums, where one of them is the address of a location
sum_same : (n : ℕ) (x : List ℕ) (a : ℕ) (z : ℤ) → n ≤ most_locations → AreWords x → IsImmediate z
    → IsDeclared n (Some (words.add (read x a) (words.word_of z)))
    → Some (add (read (map extended x) a) (doubleword_of z)) ≡ Some (words.add (read x a) (words.word_of z))
sum_same n x a z few w s d =
    let e : words.add (read x a) (words.word_of z) ≡ address_of d.0 = same d.2 in
    let less = d.1 in
    let near : d.0 < 8 = omega (arith, few, less) in
    ap (λ v. Some (add v (doubleword_of z))) (read_extended x a)
    ∙ ap (λ v. Some v) (sum_extended (read x a) d.0 z (read_word x a w) s near e ∙ sym e)

sum_same_back : (n : ℕ) (x : List ℕ) (a : ℕ) (z : ℤ) → n ≤ most_locations → AreWords x → IsImmediate z
    → IsDeclared n (Some (add (read (map extended x) a) (doubleword_of z)))
    → Some (words.add (read x a) (words.word_of z)) ≡ Some (add (read (map extended x) a) (doubleword_of z))
sum_same_back n x a z few w s d =
    let sum = ap (λ v. add v (doubleword_of z)) (read_extended x a) in
    let e : add (read (map extended x) a) (doubleword_of z) ≡ address_of d.0 = same d.2 in
    let less = d.1 in
    let near : d.0 < 8 = omega (arith, few, less) in
    ap (λ v. Some v) (sum_back (read x a) d.0 z (read_word x a w) s near (sym sum ∙ e) ∙ sym e)

base_same : (n : ℕ) (x : List ℕ) (a : ℕ) → n ≤ most_locations → IsDeclared n (Some (read x a))
    → Some (read (map extended x) a) ≡ Some (read x a)
base_same n x a few d =
    let less = d.1 in
    let near : d.0 < 8 = omega (arith, few, less) in
    ap (λ v. Some v) (read_extended x a ∙ location_extended (read x a) d.0 near (same d.2))

base_same_back : (n : ℕ) (x : List ℕ) (a : ℕ) → n ≤ most_locations → AreWords x
    → IsDeclared n (Some (read (map extended x) a)) → Some (read x a) ≡ Some (read (map extended x) a)
base_same_back n x a few w d =
    let less = d.1 in
    let near : d.0 < 8 = omega (arith, few, less) in
    let e : extended (read x a) ≡ address_of d.0 = sym (read_extended x a) ∙ same d.2 in
    ap (λ v. Some v) (sym (location_back (read x a) d.0 (read_word x a w) near e) ∙ sym (read_extended x a))

pub address_extended : (n : ℕ) (x : List ℕ) (i : Instr) → n ≤ most_locations → AreWords x → IsOfTable i
    → IsDeclared n (words.address_in x i) → address_in (map extended x) i ≡ words.address_in x i
address_extended n x (Register o rd a b) few w t d = refl
address_extended n x (Immediate o rd a z) few w t d = refl
address_extended n x (Shift o rd a m) few w t d = refl
address_extended n x (Lui rd m) few w t d = refl
address_extended n x (Li rd m) few w t d = refl
address_extended n x (Lw ann rd a z) few w t d = sum_same n x a z few w t.3 d
address_extended n x (Sw ann v a z) few w t d = sum_same n x a z few w t.3 d
address_extended n x (Lr ann rd a) few w t d = base_same n x a few d
address_extended n x (Sc ann rd v a) few w t d = base_same n x a few d
address_extended n x (Amo o ann rd v a) few w t d = base_same n x a few d
address_extended n x (Branch o a b target) few w t d = refl
address_extended n x (Jump target) few w t d = refl
address_extended n x (Fence before after) few w t d = refl
address_extended n x FenceTso few w t d = refl
address_extended n x FenceI few w t d = refl

pub address_extended_back : (n : ℕ) (x : List ℕ) (i : Instr) → n ≤ most_locations → AreWords x → IsOfTable i
    → IsDeclared n (address_in (map extended x) i) → words.address_in x i ≡ address_in (map extended x) i
address_extended_back n x (Register o rd a b) few w t d = refl
address_extended_back n x (Immediate o rd a z) few w t d = refl
address_extended_back n x (Shift o rd a m) few w t d = refl
address_extended_back n x (Lui rd m) few w t d = refl
address_extended_back n x (Li rd m) few w t d = refl
address_extended_back n x (Lw ann rd a z) few w t d = sum_same_back n x a z few w t.3 d
address_extended_back n x (Sw ann v a z) few w t d = sum_same_back n x a z few w t.3 d
address_extended_back n x (Lr ann rd a) few w t d = base_same_back n x a few w d
address_extended_back n x (Sc ann rd v a) few w t d = base_same_back n x a few w d
address_extended_back n x (Amo o ann rd v a) few w t d = base_same_back n x a few w d
address_extended_back n x (Branch o a b target) few w t d = refl
address_extended_back n x (Jump target) few w t d = refl
address_extended_back n x (Fence before after) few w t d = refl
address_extended_back n x FenceTso few w t d = refl
address_extended_back n x FenceI few w t d = refl

-- ---- all laws

pub word_laws : WordLaws
word_laws = record {
  none = extended_zero;
  one = extended_one;
  fits = extended_fits;
  injective = extended_injective;
  next = next_extended;
  address = address_extended;
  address_back = address_extended_back;
  result = result_word;
  stored = stored_word;
}
