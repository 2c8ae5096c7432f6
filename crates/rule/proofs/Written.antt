-- The bytes of the records below a number.
use Rattle.std.proofs.Common.{◌≡◌, ℕ, zero, suc, ◌+◌, ◌*◌, ◌≤◌, Bool, true, false, cond, eqb, List, ◌++◌, length, take, drop, replicate, sym, refl, ap, ◌∙◌, append_assoc, add-one, arith, length-append, drop-drop, take_at, get_or-take}
use borrow.Rule.Slice.PartMut.{put_mid}
use lib.Seq.{drop-append-add}
use Rattle.rule.specs.declared.kinds.Record.{Record}
use Rattle.rule.specs.Layout.{bytes_of}
use Rattle.rule.specs.Conditions.{at, blank}
use Rattle.rule.specs.Books.{written_at, written_below}

cond_length : (b : Bool) (xs ys : List ℕ) (n : ℕ) → length xs ≡ n → length ys ≡ n → length (cond b xs ys) ≡ n
cond_length true xs ys n p q = p
cond_length false xs ys n p q = q

pub length-written_at : (rs : List Record) (k : ℕ) → length (written_at rs k) ≡ 24
length-written_at rs k = cond_length (eqb k 0) (replicate 24 0) (bytes_of (at rs k)) 24 refl refl

pub length_below : (rs : List Record) (n : ℕ) → length (written_below rs n) ≡ 24 * n
unfolding written_below
length_below rs zero = refl
length_below rs (suc n) =
    let a = length-append (written_below rs n) (written_at rs n) in
    let b = length_below rs n in
    let s = length-written_at rs n in
    omega arith

pub below_none : (rs : List Record) (e : List ℕ) → e ≡ written_below rs 0 ++ e
unfolding written_below
below_none rs e = refl

pub below_more : (rs : List Record) (k : ℕ) (old buf new b : List ℕ)
    → buf ≡ written_below rs k ++ drop (24 * k) old → b ≡ written_at rs k → new ≡ take (24 * k) buf ++ (b ++ drop (24 * k + 24) buf)
    → new ≡ written_below rs (k + 1) ++ drop (24 * (k + 1)) old
unfolding written_below
below_more rs k old buf new b is bis newis =
    let p : List ℕ = written_below rs k in
    let d : List ℕ = drop (24 * k) old in
    let t : take (24 * k) buf ≡ p = ap (λ (x : List ℕ). take (24 * k) x) is ∙ take_at p d (24 * k) (length_below rs k) in
    let q : length p + 24 ≡ 24 * k + 24 = omega (arith, length_below rs k) in
    let r : 24 * k + 24 ≡ 24 * (k + 1) = omega arith in
    let u : drop (24 * k + 24) buf ≡ drop (24 * (k + 1)) old =
    ap (λ (x : List ℕ). drop (24 * k + 24) x) is ∙ ap (λ (n : ℕ). drop n (p ++ d)) (sym q) ∙ drop-append-add p d 24
    ∙ drop-drop 24 (24 * k) old ∙ ap (λ (n : ℕ). drop n old) r in
    let v : written_below rs (k + 1) ≡ p ++ written_at rs k = rw (add-one k) in
    let w = append_assoc p (written_at rs k) (drop (24 * (k + 1)) old) in
    cc

-- the records up to the last are all that is written
pub written_front : (rs : List Record) (n m : ℕ) → n ≤ m → m ≤ length rs → written_below (take m rs) n ≡ written_below rs n
unfolding written_below
written_front rs zero m h l = refl
written_front rs (suc n) m h l =
    let a : at (take m rs) n ≡ at rs n = get_or-take m rs n blank (omega arith) in
    let b = written_front rs n m (omega arith) l in
    rw (a, b)

pub put_is : (s k : ℕ) (xs ys bytes : List ℕ) → k ≡ 24 → ys ≡ bytes → put_mid s k xs ys ≡ take s xs ++ (bytes ++ drop (s + 24) xs)
put_is s k xs ys bytes e h = rw (e, h, drop-drop 24 s xs)
