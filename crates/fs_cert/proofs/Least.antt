-- The first link of those whose operation is the least.
use Rattle.std.proofs.Common.{◌≡◌, ℕ, suc, ◌<◌, ◌≤◌, List, [], ◌∷◌, ◌++◌, length, get_or, take, drop, sym, subst, arith}
use Rattle.std.specs.Prelude.{All}
use Rattle.std.proofs.Math.Seq.{drop-cons}
use Rattle.std.proofs.lemmas.List.Elements.{All-append, All-drop, All-from_get_or, All-take}
use Rattle.fs_cert_evidence.specs.Certificate.{Link}
use Rattle.fs_cert.specs.Cycles.{BeginsAtLeast, IsNotAfter}
use Rattle.fs_cert.specs.inner.Copies.{turned}

-- the link of this number, whose operation comes after that of none of the first n
pub record IsLeast (links : List Link) (n least : ℕ) : Type 0 where
  pub within : least ≤ length links
  pub there : 0 < length links → least < length links
  pub before : (k : ℕ) (d : Link) → k < n → IsNotAfter (get_or links least d).operation (get_or links k d).operation

-- it stands first where the links are turned to it
pub begins : (links : List Link) (n least : ℕ) → length links ≤ n → IsLeast links n least → BeginsAtLeast (turned least links)
begins [] n least all is = subst (λ k. BeginsAtLeast (turned k [])) (none least is.within) tt
  where
    none : (k : ℕ) → k ≤ 0 → 0 ≡ k
    none k low = omega (arith, low)
begins (link ∷ links) n least all is =
    let low : least < length (link ∷ links) = is.there (omega arith) in
    let one = get_or (link ∷ links) least link in
    let each : All (λ other. IsNotAfter one.operation other.operation) (link ∷ links) =
    All-from_get_or (λ other. IsNotAfter one.operation other.operation) (link ∷ links) link (λ k there. is.before k link (omega (arith, there, all))) in
    let cut : drop least (link ∷ links) ≡ one ∷ drop (suc least) (link ∷ links) = drop-cons (link ∷ links) least link low in
    subst (λ l. BeginsAtLeast (l ++ take least (link ∷ links))) (sym cut)
    (All-append (λ other. IsNotAfter one.operation other.operation) (drop (suc least) (link ∷ links)) (take least (link ∷ links))
    (All-drop (λ other. IsNotAfter one.operation other.operation) (suc least) (link ∷ links) each)
    (All-take (λ other. IsNotAfter one.operation other.operation) least (link ∷ links) each))
