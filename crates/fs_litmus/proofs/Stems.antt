-- Words without the digits and _ at their end.
use Rattle.std.proofs.Common.{◌≡◌, ℕ, ◌+◌, ◌<◌, List, [], ◌∷◌, ◌++◌, length, take, get_or, true, false, ◌&&◌, sym, ap, ◌∙◌, arith, if◌then◌else◌}
use Rattle.std.specs.List.{list_all}
use Rattle.std.proofs.lemmas.List.{take_more}
use Rattle.std.proofs.lemmas.Bool.Decides.{nat_tests}
use Rattle.fs_litmus.specs.SiteName.{is_copy_byte, stem}

all_more : (xs : List ℕ) (x : ℕ) → is_copy_byte x ≡ true → list_all is_copy_byte (xs ++ x ∷ []) ≡ list_all is_copy_byte xs
all_more [] x h = ap (λ b. b && true) h
all_more (y ∷ xs) x h = ap (λ b. is_copy_byte y && b) (all_more xs x h)

not_all : (xs : List ℕ) (x : ℕ) → is_copy_byte x ≡ false → list_all is_copy_byte (xs ++ x ∷ []) ≡ false
not_all [] x h = ap (λ b. b && true) h
not_all (y ∷ xs) x h = let later = not_all xs x h in grind (arith, later)

-- one of them more at the end
pub stem_more : (xs : List ℕ) (x : ℕ) → is_copy_byte x ≡ true → stem (xs ++ x ∷ []) ≡ stem xs
stem_more [] x h = ap (λ b. if b && true then [] else x ∷ []) h
stem_more (y ∷ xs) x h =
    ap (λ b. if b then [] else y ∷ stem (xs ++ x ∷ [])) (all_more (y ∷ xs) x h)
    ∙ ap (λ l. if list_all is_copy_byte (y ∷ xs) then [] else y ∷ l) (stem_more xs x h)

-- none at the end
pub stem_whole : (xs : List ℕ) (x : ℕ) → is_copy_byte x ≡ false → stem (xs ++ x ∷ []) ≡ xs ++ x ∷ []
stem_whole [] x h = ap (λ b. if b && true then [] else x ∷ []) h
stem_whole (y ∷ xs) x h =
    ap (λ b. if b then [] else y ∷ stem (xs ++ x ∷ [])) (not_all (y ∷ xs) x h)
    ∙ ap (λ l. y ∷ l) (stem_whole xs x h)

pub stem_shorter : (word : List ℕ) (i j : ℕ) → j ≡ i + 1 → i < length word → is_copy_byte (get_or word i 0) ≡ true → stem (take j word) ≡ stem (take i word)
stem_shorter word i j e low h = ap (λ k. stem (take k word)) e ∙ ap stem (take_more word i 0 low) ∙ stem_more (take i word) (get_or word i 0) h

pub stem_taken : (word : List ℕ) (i j : ℕ) → j ≡ i + 1 → i < length word → is_copy_byte (get_or word i 0) ≡ false → stem (take j word) ≡ take j word
stem_taken word i j e low h =
    ap (λ k. stem (take k word)) e ∙ ap stem (take_more word i 0 low) ∙ stem_whole (take i word) (get_or word i 0) h
    ∙ sym (take_more word i 0 low) ∙ ap (λ k. take k word) (sym e)

pub copy_is_ascii : (b : ℕ) → is_copy_byte b ≡ true → b < 128
copy_is_ascii b h = grind (arith, nat_tests)
