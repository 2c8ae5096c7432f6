-- A list cut into pieces of one size: the piece that an iterator gives, and what it has left.
use Rattle.std.proofs.Common.{◌≡◌, ℕ, ◌+◌, ◌*◌, ◌<◌, ◌≤◌, List, ◌++◌, length, take, drop, sym, ap, ◌∙◌, arith, length-drop}
use Rattle.std.proofs.Math.Seq.{take-append_seam, drop-append_seam}
use Rattle.std.proofs.lemmas.List.{drop-drop, length-append}

-- piece k of a list, and what lies behind it
pub record Piece {X : Type 0} (size k : ℕ) (xs piece rest : List X) : Type 0 where
  pub is : take size (drop (size * k) xs) ≡ piece
  pub left : rest ≡ drop (size * (k + 1)) xs
  pub within : size * k + size ≤ length xs

-- the piece at the front of what was left behind the first k
pub next_piece : {X : Type 0} (size k : ℕ) (xs : List X) {n : ℕ} {before piece rest : List X} → 0 < size → n ≡ size → before ≡ drop (size * k) xs
    → before ≡ piece ++ rest → length piece ≡ n → Piece size k xs piece rest
next_piece size k xs {n} {before} {piece} {rest} p same at cut long =
    let e : drop (size * k) xs ≡ piece ++ rest = sym at ∙ cut in
    let l : length piece ≡ size = long ∙ same in
    let m : size * k + size ≡ size * (k + 1) = omega arith in
    record {
      is = ap (take size) e ∙ ap (λ n. take n (piece ++ rest)) (sym l) ∙ take-append_seam piece rest;
      left = sym (drop-append_seam piece rest) ∙ ap (λ n. drop n (piece ++ rest)) l ∙ ap (drop size) (sym e) ∙ drop-drop size (size * k) xs
          ∙ ap (λ n. drop n xs) m;
      within = omega (arith, length-drop (size * k) xs, ap length e, length-append piece rest, l, p);
    }
