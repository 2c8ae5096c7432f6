-- What a list of posted amounts comes to on a gauge that keeps the laws.
use Rattle.std.proofs.Common.{◌≡◌, ℕ, List, [], ◌∷◌, get_or, sym, refl, ap, ◌∙◌, le_trans, le_refl}
use Rattle.std.specs.List.{All}
use Rattle.std.proofs.lemmas.List.Elements.{All-head, All-tail, All-from_get_or}
use Rattle.gauge.specs.Meaning.{Fits, Meaning, Lawful}
use Rattle.gauge.specs.Posting.{added, joined, Posted, Joined, ReadingNeverFalls, JoinedIsTheSame}

module _ {m : Meaning} (l : Lawful m) where
  pub never_falls : ReadingNeverFalls m
  never_falls c t [] ht f = le_refl (m.read c t)
  never_falls c t (a ∷ amounts) ht f =
      let first = All-head Fits a amounts f in
      le_trans (l.rises c t a ht first)
      (never_falls c (m.add c t a) amounts (l.add_fits c t a ht first) (All-tail Fits a amounts f))

  -- amounts after a first one: joined to it, or added after it
  first_joined :
      (c t a : ℕ) (amounts : List ℕ) → Fits t → Fits a → All Fits amounts →
      added m c (m.add c t a) amounts ≡ m.add c t (joined m c a amounts)
  first_joined c t a [] ht ha f = refl
  first_joined c t a (b ∷ amounts) ht ha f =
      let hb = All-head Fits b amounts f in
      ap (λ (n : ℕ). added m c n amounts) (l.joins c t a b ht ha hb)
      ∙ first_joined c t (m.join c a b) amounts ht (l.join_fits c a b ha hb) (All-tail Fits b amounts f)

  pub joined_is_the_same : JoinedIsTheSame m
  joined_is_the_same c t [] ht f = refl
  joined_is_the_same c t (a ∷ amounts) ht f =
      first_joined c t a amounts ht (All-head Fits a amounts f) (All-tail Fits a amounts f)

  module _ (c n : ℕ) (amounts : List ℕ) (r : ℕ) (hn : Fits n) (f : (i : ℕ) → Fits (get_or amounts i 0)) where
    -- what the amounts, added in order, come to
    pub posted : r ≡ added m c n amounts → Posted m c n amounts r
    posted is =
        let all = All-from_get_or Fits amounts 0 (λ i _. f i) in
        record {
          in_order = is;
          never_falls = rw is (never_falls c n amounts hn all);
          as_joined = is ∙ joined_is_the_same c n amounts hn all;
        }

    -- what the amounts, joined in order, come to
    pub joins : r ≡ joined m c n amounts → Joined m c n amounts r
    joins is =
        let all = All-from_get_or Fits amounts 0 (λ i _. f i) in
        record { in_order = is; as_added = λ t ht. ap (m.add c t) is ∙ sym (first_joined c t n amounts ht hn all) }
