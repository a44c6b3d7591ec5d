-- The pairs that an order keeps at a slot: it is enough to look at what it turns round.
use Rattle.std.proofs.Common.{◌≡◌, ℕ, ◌+◌, Bool, true, false, ◌&&◌, ◌||◌, not, List, [], ◌∷◌, ◌++◌, map, length, refl, sym, ap, ap₂, ◌∙◌, arith}
use Rattle.std.specs.Prelude.{if◌then◌else◌, filter}
use Rattle.std.specs.List.{list_all, flat_map, range_with_len}
use Rattle.std.proofs.lemmas.Grind.{flat_map-append}
use Rattle.std.proofs.lemmas.List.Folds.{list_all-append}
use Rattle.std.proofs.lemmas.List.FromFn.{map-range_with_len_more}
use Rattle.fs_kinds.specs.declared.placement.Entry.{Entry}
use Rattle.fs_kinds.specs.declared.slot.Slot.{Slot}
use Rattle.fs_kinds.specs.Kind.{Pair, ReadRead, ReadWrite, WriteRead, WriteWrite}
use Rattle.fs_model.specs.declared.test.Test.{Test}
use Rattle.fs_model.specs.Numbers.{numbers_below, stands_before}
use Rattle.fs_model.specs.Operations.{operations, po}
use Rattle.fs_model.specs.Source.{gmo}
use Rattle.fs_model.specs.Fences.{fence_between}
use Rattle.fs_cert_evidence.specs.Widths.{Width, width, single}
use Rattle.fs_check.specs.declared.ordered.OrderedCandidate.{OrderedCandidate}
use Rattle.fs_check.specs.Ordered.{execution_in, runs_in}
use Rattle.fs_cert_evidence.specs.declared.evidence.Pairs.{Pairs}
use Rattle.fs_cert_evidence.specs.Evidence.{pairs_at}
use Rattle.fs_check_certificate.specs.inner.Bearing.{all_turned, is_borne}

-- ---- one row after the other

-- the rows of the numbers below n, joined
pub one_row_more : {A : Type 0} (f : ℕ → List A) (items found pushed : List A) (n : ℕ)
    → items ≡ flat_map f (range_with_len 0 n) → found ≡ f n → pushed ≡ items ++ found → pushed ≡ flat_map f (range_with_len 0 (n + 1))
one_row_more {A = A} f items found pushed n are row grown =
    grown ∙ (ap₂ (λ xs ys. xs ++ ys) are row ∙ sym (joined (range_with_len 0 (n + 1)) (range_with_len 0 n) last))
  where
    same : (ns : List ℕ) → map (λ k. k) ns ≡ ns
    same [] = refl
    same (k ∷ ks) = ap (λ ms. k ∷ ms) (same ks)

    last : range_with_len 0 (n + 1) ≡ range_with_len 0 n ++ n ∷ []
    last = sym (same (range_with_len 0 (n + 1))) ∙ (map-range_with_len_more (λ k. k) 0 n n (omega arith) ∙ ap (λ ms. ms ++ n ∷ []) (same (range_with_len 0 n)))

    none_after : (xs : List A) → xs ++ [] ≡ xs
    none_after [] = refl
    none_after (x ∷ xs) = ap (λ ys. x ∷ ys) (none_after xs)

    joined : (all before : List ℕ) → all ≡ before ++ n ∷ [] → flat_map f all ≡ flat_map f before ++ f n
    joined all before is =
        ap (flat_map f) is ∙ (flat_map-append f before (n ∷ []) ∙ ap (λ xs. flat_map f before ++ xs) (none_after (f n)))

pub all_rows : {A : Type 0} (f : ℕ → List A) (items : List A) (n m : ℕ) → items ≡ flat_map f (range_with_len 0 n) → n ≡ m
    → items ≡ flat_map f (numbers_below m)
all_rows f items n m are is = are ∙ ap (λ k. flat_map f (range_with_len 0 k)) is

-- ---- what is turned round

module _ (po fence before : ℕ → ℕ → Bool) where
  abbrev turns : ℕ → ℕ → Bool
  turns a b = not (before a b) && po a b

  abbrev free : ℕ × ℕ → Bool
  free turn = not (po turn.0 turn.1 && fence turn.0 turn.1)

  abbrev bears : ℕ → ℕ → Bool
  bears a b = not (po a b && fence a b) || before a b

  abbrev row : List ℕ → ℕ → List (ℕ × ℕ)
  row bs a = map (λ b. (a, b)) (filter (turns a) bs)

  pushed : (c : Bool) (a b : ℕ) (bs : List ℕ)
      → list_all free (map (λ b. (a, b)) (if c then b ∷ bs else bs)) ≡ (if c then free (a, b) && list_all free (map (λ b. (a, b)) bs) else list_all free (map (λ b. (a, b)) bs))
  pushed true a b bs = refl
  pushed false a b bs = refl

  either : (s p f rest : Bool) → (if not s && p then not (p && f) && rest else rest) ≡ ((not (p && f) || s) && rest)
  either true true true rest = refl
  either true true false rest = refl
  either true false f rest = refl
  either false true true rest = refl
  either false true false rest = refl
  either false false f rest = refl

  in_row : (a : ℕ) (bs : List ℕ) → list_all free (row bs a) ≡ list_all (bears a) bs
  in_row a [] = refl
  in_row a (b ∷ bs) =
      pushed (turns a b) a b (filter (turns a) bs)
      ∙ (ap (λ rest. if turns a b then free (a, b) && rest else rest) (in_row a bs)
      ∙ either (before a b) (po a b) (fence a b) (list_all (bears a) bs))

  pub in_rows : (ns bs : List ℕ) → list_all free (flat_map (row bs) ns) ≡ list_all (λ a. list_all (bears a) bs) ns
  in_rows [] bs = refl
  in_rows (a ∷ ns) bs = list_all-append free (row bs a) (flat_map (row bs) ns) ∙ ap₂ (λ b c. b && c) (in_row a bs) (in_rows ns bs)

-- ---- the pairs, one by one

pub kept_pair : (t : Test) (o : OrderedCandidate) (slot : Slot) (pair : Pair) (p : List Entry) (turns : List (ℕ × ℕ)) (kept : Bool)
    → turns ≡ all_turned t o → kept ≡ list_all (is_borne t o p) turns → p ≡ single slot pair → kept ≡ width t (execution_in o) slot pair
kept_pair t o slot pair p turns kept are e k =
    let count = length (operations (runs_in t o)) in
    e
    ∙ (ap₂ (λ q ts. list_all (is_borne t o q) ts) k are
    ∙ in_rows (po (runs_in t o)) (fence_between (runs_in t o) (single slot pair)) (stands_before (gmo (runs_in t o) o.order.listed)) (numbers_below count) (numbers_below count))

abbrev pub made_of : Bool → Bool → Bool → Bool → Pairs
made_of a b c d = record { read_read = a; read_write = b; write_read = c; write_write = d }

pub same_pairs : (w : Width) (slot : Slot) (a b c d : Bool) → a ≡ w slot ReadRead → b ≡ w slot ReadWrite → c ≡ w slot WriteRead → d ≡ w slot WriteWrite
    → made_of a b c d ≡ pairs_at w slot
same_pairs w slot a b c d e f g h =
    ap (λ x. made_of x b c d) e
    ∙ (ap (λ x. made_of (w slot ReadRead) x c d) f
    ∙ (ap (λ x. made_of (w slot ReadRead) (w slot ReadWrite) x d) g
    ∙ ap (λ x. made_of (w slot ReadRead) (w slot ReadWrite) (w slot WriteRead) x) h))
