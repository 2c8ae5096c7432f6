-- A record's bytes, read and written again, and the other way round.
use Rattle.std.proofs.Common.{◌≡◌, ℕ, ◌+◌, ◌*◌, ◌/◌, ◌%◌, ◌^◌, ◌<◌, Bool, true, false, cond, eqb, ◌⊎◌, List, [], ◌∷◌, ◌++◌, map, length, get_or, Some, None, Option, sym, refl, ap, ◌∙◌, inl, inr, arith, ne_eqb, eqb-true}
use Rattle.std.specs.List.{range_with_len}
use Rattle.std.proofs.lemmas.List.FromFn.{fill_by_all}
use Rattle.rule.specs.declared.kinds.Kind.{Kind}
use Rattle.rule.specs.declared.kinds.Kind.TheVariants.{Mark, NotMark, All, Any, Next, Until, Release, Eventually, Always}
use Rattle.rule.specs.declared.kinds.Record.{Record}
use Rattle.rule.specs.Layout.{kind_of, code_of, link_of, number_of, number2, number8, bytes2, bytes8, fields_of, record_of, bytes_of}

pub digits2 : (a b : ℕ) → a < 256 → b < 256 → bytes2 (a * 256 + b) ≡ a ∷ b ∷ []
digits2 a b p q =
    let x : (a * 256 + b) / 256 % 256 ≡ a = omega arith in
    let y : (a * 256 + b) % 256 ≡ b = omega arith in
    cc

pub digits8 : (b0 b1 b2 b3 b4 b5 b6 b7 : ℕ) → b0 < 256 → b1 < 256 → b2 < 256 → b3 < 256 → b4 < 256 → b5 < 256 → b6 < 256 → b7 < 256
    → bytes8 (b0 * 72057594037927936 + b1 * 281474976710656 + b2 * 1099511627776 + b3 * 4294967296 + b4 * 16777216 + b5 * 65536 + b6 * 256 + b7)
    ≡ b0 ∷ b1 ∷ b2 ∷ b3 ∷ b4 ∷ b5 ∷ b6 ∷ b7 ∷ []
digits8 b0 b1 b2 b3 b4 b5 b6 b7 h0 h1 h2 h3 h4 h5 h6 h7 =
    let n : ℕ = b0 * 72057594037927936 + b1 * 281474976710656 + b2 * 1099511627776 + b3 * 4294967296 + b4 * 16777216 + b5 * 65536 + b6 * 256 + b7 in
    let e0 : n / 72057594037927936 % 256 ≡ b0 = omega arith in
    let e1 : n / 281474976710656 % 256 ≡ b1 = omega arith in
    let e2 : n / 1099511627776 % 256 ≡ b2 = omega arith in
    let e3 : n / 4294967296 % 256 ≡ b3 = omega arith in
    let e4 : n / 16777216 % 256 ≡ b4 = omega arith in
    let e5 : n / 65536 % 256 ≡ b5 = omega arith in
    let e6 : n / 256 % 256 ≡ b6 = omega arith in
    let e7 : n % 256 ≡ b7 = omega arith in
    cc

pub number_link : (n : ℕ) → number_of (link_of n) ≡ n
number_link n = go (eqb n 0) refl
  where
    go : (t : Bool) → eqb n 0 ≡ t → number_of (cond t None (Some n)) ≡ n
    go true e = sym (eqb-true n 0 e)
    go false e = refl

-- a test that is passed, or the rest
pick : (b n : ℕ) (x k : Kind) (rest : Option Kind) → code_of x ≡ n → cond (eqb b n) (Some x) rest ≡ Some k → (code_of k ≡ b) ⊎ (rest ≡ Some k)
pick b n x k rest c h = go (eqb b n) refl h
  where
    go : (t : Bool) → eqb b n ≡ t → cond t (Some x) rest ≡ Some k → (code_of k ≡ b) ⊎ (rest ≡ Some k)
    go true e h = (let q : x ≡ k = cc in inl (ap code_of (sym q) ∙ c ∙ sym (eqb-true b n e)))
    go false e h = inr h

or : {A B : Type 0} → A ⊎ B → (B → A) → A
or (inl a) f = a
or (inr b) f = f b

pub code_kind : (b : ℕ) (k : Kind) → kind_of b ≡ Some k → code_of k ≡ b
code_kind b k h =
    or (pick b 1 Mark k _ refl h) (λ h. or (pick b 2 NotMark k _ refl h) (λ h. or (pick b 3 All k _ refl h) (λ h.
    or (pick b 4 Any k _ refl h) (λ h. or (pick b 5 Next k _ refl h) (λ h. or (pick b 6 Until k _ refl h) (λ h.
    or (pick b 7 Release k _ refl h) (λ h. or (pick b 8 Eventually k _ refl h) (λ h. or (pick b 9 Always k None refl h) (λ h.
    let z : ◌≡◌ {A = ℕ} 0 1 = cc in absurd (omega arith))))))))))

half : (xs : List ℕ) (i : ℕ) → ((i : ℕ) → get_or xs i 0 < 256) → bytes2 (number_of (link_of (number2 xs i))) ≡ get_or xs i 0 ∷ get_or xs (i + 1) 0 ∷ []
half xs i fit = ap bytes2 (number_link (number2 xs i)) ∙ digits2 (get_or xs i 0) (get_or xs (i + 1) 0) (fit i) (fit (i + 1))

wide : (xs : List ℕ) (i : ℕ) → ((i : ℕ) → get_or xs i 0 < 256)
    → bytes8 (number8 xs i) ≡ get_or xs i 0 ∷ get_or xs (i + 1) 0 ∷ get_or xs (i + 2) 0 ∷ get_or xs (i + 3) 0 ∷ get_or xs (i + 4) 0 ∷ get_or xs (i + 5) 0 ∷ get_or xs (i + 6) 0 ∷ get_or xs (i + 7) 0 ∷ []
wide xs i fit =
    digits8 (get_or xs i 0) (get_or xs (i + 1) 0) (get_or xs (i + 2) 0) (get_or xs (i + 3) 0) (get_or xs (i + 4) 0) (get_or xs (i + 5) 0) (get_or xs (i + 6) 0) (get_or xs (i + 7) 0)
    (fit i) (fit (i + 1)) (fit (i + 2)) (fit (i + 3)) (fit (i + 4)) (fit (i + 5)) (fit (i + 6)) (fit (i + 7))

joined : {a b c d p q r s : List ℕ} → a ≡ p → b ≡ q → c ≡ r → d ≡ s → a ++ (b ++ (c ++ d)) ≡ p ++ (q ++ (r ++ s))
joined e f g h = cc

tail : (bs : List ℕ) → ((i : ℕ) → get_or bs i 0 < 256)
    → bytes2 (number_of (link_of (number2 bs 4))) ++ (bytes2 (number_of (link_of (number2 bs 6))) ++ (bytes8 (number8 bs 8) ++ bytes8 (number8 bs 16)))
    ≡ map (λ i. get_or bs i 0) (range_with_len 4 20)
tail bs fit = joined (half bs 4 fit) (half bs 6 fit) (wide bs 8 fit) (wide bs 16 fit)

pub round : (bs : List ℕ) (k : Kind) → length bs ≡ 24 → ((i : ℕ) → get_or bs i 0 < 256) → kind_of (get_or bs 0 0) ≡ Some k → bytes_of (fields_of bs k) ≡ bs
round bs k len fit h =
    let c : code_of k ≡ get_or bs 0 0 = code_kind (get_or bs 0 0) k h in
    ap (λ (n : ℕ). n ∷ get_or bs 1 0 ∷ get_or bs 2 0 ∷ get_or bs 3 0 ∷ (bytes2 (number_of (link_of (number2 bs 4))) ++ (bytes2 (number_of (link_of (number2 bs 6))) ++ (bytes8 (number8 bs 8) ++ bytes8 (number8 bs 16))))) c
    ∙ ap (λ (r : List ℕ). get_or bs 0 0 ∷ get_or bs 1 0 ∷ get_or bs 2 0 ∷ get_or bs 3 0 ∷ r) (tail bs fit)
    ∙ sym (fill_by_all (λ i. get_or bs i 0) bs 24 0 len (λ i l. refl))

-- ---- written, and read again

pub number2_bytes : (n : ℕ) → n < 2 ^ 16 → n / 256 % 256 * 256 + n % 256 ≡ n
number2_bytes n h = omega arith

pub number8_bytes : (n : ℕ) → n < 2 ^ 64
    → n / 256 ^ 7 % 256 * 256 ^ 7 + n / 256 ^ 6 % 256 * 256 ^ 6 + n / 256 ^ 5 % 256 * 256 ^ 5 + n / 256 ^ 4 % 256 * 256 ^ 4
    + n / 256 ^ 3 % 256 * 256 ^ 3 + n / 256 ^ 2 % 256 * 256 ^ 2 + n / 256 % 256 * 256 + n % 256 ≡ n
number8_bytes n h = omega arith

kind_code : (k : Kind) → kind_of (code_of k) ≡ Some k
kind_code Mark = refl
kind_code NotMark = refl
kind_code All = refl
kind_code Any = refl
kind_code Next = refl
kind_code Until = refl
kind_code Release = refl
kind_code Eventually = refl
kind_code Always = refl

-- a link that a book can hold
abbrev pub Linkable : Option ℕ → Type 0
Linkable None = Unit {0}
Linkable (Some j) = (0 < j) × (j < 2 ^ 16)

link_number : (l : Option ℕ) → Linkable l → link_of (number2 (bytes2 (number_of l)) 0) ≡ l
link_number None h = refl
link_number (Some j) h =
    let lo = h.0 in
    let e = number2_bytes j h.1 in
    let n : eqb j 0 ≡ false = ne_eqb j 0 (omega arith) in
    ap link_of e ∙ rw n

pub record_back : (r : Record) → Linkable r.first → Linkable r.next → r.lower < 2 ^ 64 → r.upper < 2 ^ 64
    → record_of (bytes_of r) ≡ Some r
record_back r f n l u =
    let k = kind_code r.kind in
    let a = link_number r.first f in
    let b = link_number r.next n in
    let c = number8_bytes r.lower l in
    let d = number8_bytes r.upper u in
    rw (k, a, b, c, d)
