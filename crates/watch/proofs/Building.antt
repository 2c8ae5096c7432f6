-- The builder's stack: one term more on top, and the two on top joined.
use Rattle.std.proofs.Common.{◌≡◌, ℕ, ◌+◌, ◌-◌, ◌<◌, min, List, [], ◌∷◌, ◌++◌, length, get_or, take, set, sym, refl, ap, ◌∙◌, subst, inl, inr, append_assoc, arith}
use Rattle.std.proofs.lemmas.List.{append-nil, length-append, get_or_append_left, get_or-set_same, get_or-set_other, get_or_push, take_at, length_push}
use Rattle.std.proofs.lemmas.Bool.{cases_eq}
use Rattle.arrayvec.specs.ArrayVec.{ArrayVec, array_vec_len}
use Rattle.wmtl.specs.Residual.{Term}
use Rattle.rule.specs.declared.rules.Rule.{Rule}
use Rattle.watch.specs.declared.builder.Builder.{Builder}
use Rattle.watch.specs.declared.cells.Cell.{Cell}
use Rattle.watch.specs.declared.cells.Cell.TheVariants.{Fresh, Pair}
use Rattle.watch.specs.declared.cells.Entry.{Entry}
use Rattle.watch.specs.declared.cells.Operator.{Operator}
use Rattle.watch.specs.declared.cells.Operator.TheVariants.{Both, Either}
use Rattle.watch.specs.declared.cells.Verdict.{Verdict}
use Rattle.watch.specs.declared.cells.Verdict.TheVariants.{Undecided}
use Rattle.watch.specs.Stored.{Stores, stores_true, stores_false, stores_fresh, stores_waiting, stores_pair, Stack, empty, push, told, joined, paired}
use Rattle.watch.specs.Working.{Held, OnTop, StackIn, Builds}
use Rattle.watch.proofs.Joining.{Constant}

-- ---- cells

-- one cell more
pub held_write : (cells : List Cell) (count : ℕ) (all : List Cell) (c : Cell) → length cells ≡ 1024 → Held cells count all
    → Held (set cells count c) (count + 1) (all ++ c ∷ [])
held_write cells count all c wide h = record {
  counted = omega (arith, length_push all c, h.counted);
  stored = λ k below here. elim (cases_eq k count) [
    | inl e ↦
        let lt : count < length cells = omega arith in
        subst (λ n. get_or (set cells count c) n (Fresh 0) ≡ get_or (all ++ c ∷ []) n (Fresh 0)) (sym e)
        (get_or-set_same cells count c (Fresh 0) lt ∙ sym (get_or_push all c (Fresh 0) count (sym h.counted)))
    | inr ne ↦
        let lt : k < count = omega arith in
        let in_all : k < length all = omega (arith, h.counted) in
        get_or-set_other cells count k c (Fresh 0) ne ∙ h.stored k below lt ∙ sym (get_or_append_left all (c ∷ []) (Fresh 0) k in_all)
  ];
}

-- the last cells dropped
pub held_cut : (cells : List Cell) (count : ℕ) (all rest : List Cell) → Held cells count (all ++ rest) → Held cells (length all) all
held_cut cells count all rest h = record {
  counted = refl;
  stored = λ k below here.
      let lt : k < count = omega (arith, h.counted, length-append all rest) in
      h.stored k below lt ∙ get_or_append_left all rest (Fresh 0) k here;
}

pair_open : (o : Operator) (t u : Term) → Constant (paired o t u) → ⊥
pair_open Both t u h = h
pair_open Either t u h = h

-- a constant has no cells
pub no_cells : {rule : Rule} {cs : List Cell} {t : Term} → Stores rule cs t → Constant t → cs ≡ []
no_cells stores_true h = refl
no_cells stores_false h = refl
no_cells (stores_fresh r) h = absurd h
no_cells (stores_waiting r e) h = absurd h
no_cells (stores_pair {t = t} {u = u} o s s' p q) h = absurd (pair_open o t u h)

-- ---- what two terms on top make

module _ (rule : Rule) (cells : List Cell) (count : ℕ) (below xs ys : List Cell) (t u : Term) (o : Operator)
    (s : Stores rule xs t) (s' : Stores rule ys u) (h : Held cells count ((below ++ ys) ++ xs)) where
  pub on_absorbed : (j : Term) (v : Verdict) (start : ℕ) → Stores rule [] j → v ≡ told j → start ≡ length below → joined o t u ≡ j
      → OnTop rule cells (min count start) below v (joined o t u)
  on_absorbed j v start sj tj st e =
      let g : Held cells count (below ++ (ys ++ xs)) = subst (Held cells count) (append_assoc below ys xs) h in
      let l = length-append below (ys ++ xs) in
      let c = g.counted in
      let n : length below ≡ min count start = omega arith in
      let cut : Held cells (min count start) (below ++ []) =
      subst (Held cells (min count start)) (sym (append-nil below)) (subst (λ (k : ℕ). Held cells k below) n (held_cut cells count below (ys ++ xs) g)) in
      record { own = []; stores = subst (Stores rule []) (sym e) sj; held = cut; tells = tj ∙ ap told (sym e) }

  pub on_left : (v : Verdict) → v ≡ told t → joined o t u ≡ t → Constant u → OnTop rule cells count below v (joined o t u)
  on_left v p e c =
      let none = no_cells s' c in
      let same : (below ++ ys) ++ xs ≡ below ++ xs = ap (λ (zs : List Cell). (below ++ zs) ++ xs) none ∙ ap (λ (zs : List Cell). zs ++ xs) (append-nil below) in
      record { own = xs; stores = subst (Stores rule xs) (sym e) s; held = subst (Held cells count) same h; tells = p ∙ ap told (sym e) }

  pub on_right : (v : Verdict) → v ≡ told u → joined o t u ≡ u → Constant t → OnTop rule cells count below v (joined o t u)
  on_right v p e c =
      let none = no_cells s c in
      let same : (below ++ ys) ++ xs ≡ below ++ ys = ap (λ (zs : List Cell). (below ++ ys) ++ zs) none ∙ append-nil (below ++ ys) in
      record { own = ys; stores = subst (Stores rule ys) (sym e) s'; held = subst (Held cells count) same h; tells = p ∙ ap told (sym e) }

  pub on_joined : length cells ≡ 1024 → joined o t u ≡ paired o t u → told t ≡ Undecided → told u ≡ Undecided → told (paired o t u) ≡ Undecided
      → OnTop rule (set cells count (Pair o)) (count + 1) below Undecided (joined o t u)
  on_joined wide e p q k =
      let same : ((below ++ ys) ++ xs) ++ Pair o ∷ [] ≡ below ++ (ys ++ (xs ++ Pair o ∷ [])) = simp append_assoc in
      record {
        own = ys ++ (xs ++ Pair o ∷ []);
        stores = subst (Stores rule (ys ++ (xs ++ Pair o ∷ []))) (sym e) (stores_pair o s s' p q);
        held = subst (Held (set cells count (Pair o)) (count + 1)) same (held_write cells count _ (Pair o) wide h);
        tells = sym k ∙ ap told (sym e);
      }

-- ---- the stack

-- a term more
pub pushed : (rule : Rule) (b n : Builder) (ts : List Term) (own : List Cell) (t : Term) (v : Verdict)
    → Stores rule own t → v ≡ told t
    → n.entries.items ≡ b.entries.items ++ record { start = b.count; verdict = v } ∷ []
    → ((all : List Cell) → Held b.cells b.count all → Held n.cells n.count (all ++ own))
    → Builds rule b ts → Builds rule n (t ∷ ts)
pushed rule b n ts own t v s is ne hold h =
    let c : b.count ≡ length h.all = h.held.counted in
    let entry : record { start = b.count; verdict = v } ≡ record { start = length h.all; verdict = told t } = cc in
    record {
      all = h.all ++ own;
      stack = subst (λ (es : List Entry). Stack rule (h.all ++ own) es (t ∷ ts))
          (sym (ne ∙ ap (λ (e : Entry). b.entries.items ++ e ∷ []) entry)) (push h.stack s);
      held = hold h.all h.held;
    }

pub held_same : (cells cells' : List Cell) (count count' : ℕ) → cells' ≡ cells → count' ≡ count
    → (all : List Cell) → Held cells count all → Held cells' count' (all ++ [])
held_same cells cells' count count' p q all h =
    subst (Held cells' count') (sym (append-nil all))
    (subst (λ (xs : List Cell). Held xs count' all) (sym p) (subst (λ (k : ℕ). Held cells k all) (sym q) h))

pub held_more : (cells cells' : List Cell) (count count' : ℕ) (c : Cell) → length cells ≡ 1024 → cells' ≡ set cells count c → count' ≡ count + 1
    → (all : List Cell) → Held cells count all → Held cells' count' (all ++ c ∷ [])
held_more cells cells' count count' c wide p q all h =
    subst (λ (xs : List Cell). Held xs count' (all ++ c ∷ [])) (sym p)
    (subst (λ (k : ℕ). Held (set cells count c) k (all ++ c ∷ [])) (sym q) (held_write cells count all c wide h))

-- no term
pub builds_none : (rule : Rule) (cells : List Cell) (entries : List Entry) → entries ≡ [] → StackIn rule cells 0 entries []
builds_none rule cells entries none =
    record {
      all = [];
      stack = subst (λ (es : List Entry). Stack rule [] es []) (sym none) empty;
      held = record { counted = refl; stored = λ k below here. absurd (omega arith) };
    }

-- a leaf: its entry, and then its cell
pub pushed_leaf : (rule : Rule) (b m n : Builder) (ts : List Term) (c : Cell) (t : Term)
    → Stores rule (c ∷ []) t → Undecided ≡ told t
    → m.cells ≡ b.cells → m.count ≡ b.count
    → m.entries.items ≡ b.entries.items ++ record { start = b.count; verdict = Undecided } ∷ []
    → n.cells ≡ set m.cells m.count c → n.count ≡ m.count + 1 → n.entries ≡ m.entries
    → Builds rule b ts → Builds rule n (t ∷ ts)
pushed_leaf rule b m n ts c t s is mc mk me nc nk ne h =
    let cs : n.cells ≡ set b.cells b.count c = nc ∙ ap (λ (xs : List Cell). set xs m.count c) mc ∙ ap (λ (k : ℕ). set b.cells k c) mk in
    pushed rule b n ts (c ∷ []) t Undecided s is (ap (λ (v : ArrayVec Entry). v.items) ne ∙ me)
    (held_more b.cells n.cells b.count n.count c b.wide cs (nk ∙ ap (λ (k : ℕ). k + 1) mk)) h

-- ---- the two terms on top

-- the two top entries, and what is below them
module _ (es : List Entry) (f e d : Entry) where
  pub first_top : (depth : ℕ) → depth ≡ length es + 2 → get_or ((es ++ f ∷ []) ++ e ∷ []) (depth - 1) d ≡ e
  first_top depth n =
      let b = length_push es f in
      get_or_push (es ++ f ∷ []) e d (depth - 1) (omega arith)

  pub second_top : (depth : ℕ) → depth ≡ length es + 2 → get_or ((es ++ f ∷ []) ++ e ∷ []) (depth - 2) d ≡ f
  second_top depth n =
      let b = length_push es f in
      get_or_append_left (es ++ f ∷ []) (e ∷ []) d (depth - 2) (omega arith) ∙ get_or_push es f d (depth - 2) (omega arith)

  pub below_top : (depth : ℕ) → depth ≡ length es + 2 → take (depth - 2) ((es ++ f ∷ []) ++ e ∷ []) ≡ es
  below_top depth n =
      ap (λ (xs : List Entry). take (depth - 2) xs) (append_assoc es (f ∷ []) (e ∷ [])) ∙ take_at es _ (depth - 2) (omega arith)

-- the builder after the two on top were joined
pub combined : (rule : Rule) (b : Builder) (o : Operator) (t u : Term) (ts : List Term) (d : Entry) (v : Verdict)
    (cells : List Cell) (count depth : ℕ) (left right : Entry) → depth ≡ array_vec_len b.entries
    → left ≡ get_or b.entries.items (depth - 1) d → right ≡ get_or b.entries.items (depth - 2) d
    → ((below xs ys : List Cell) → Stores rule xs t → Stores rule ys u → left.verdict ≡ told t
    → right ≡ record { start = length below; verdict = told u }
    → Held b.cells b.count ((below ++ ys) ++ xs) → OnTop rule cells count below v (joined o t u))
    → (entries : List Entry) → entries ≡ take (depth - 2) b.entries.items ++ record { start = right.start; verdict = v } ∷ []
    → Builds rule b (t ∷ (u ∷ ts)) → StackIn rule cells count entries (joined o t u ∷ ts)
combined rule b o t u ts d v cells count depth left right nd nl nr meets entries ne h = go h.stack h.held refl
  where
    go : {all : List Cell} {tops : List Entry} → Stack rule all tops (t ∷ (u ∷ ts)) → Held b.cells b.count all
        → b.entries.items ≡ tops → StackIn rule cells count entries (joined o t u ∷ ts)
    go (push (push {all = below} {cs = ys} {es = es} s su) st) held is =
        let f : Entry = record { start = length below; verdict = told u } in
        let e : Entry = record { start = length (below ++ ys); verdict = told t } in
        let two : depth ≡ length es + 2 =
        (let a = length_push (es ++ f ∷ []) e in let b = length_push es f in let l = ap length is in omega arith) in
        let first : left ≡ e = nl ∙ ap (λ (xs : List Entry). get_or xs (depth - 1) d) is ∙ first_top es f e d depth two in
        let second : right ≡ f = nr ∙ ap (λ (xs : List Entry). get_or xs (depth - 2) d) is ∙ second_top es f e d depth two in
        let m = meets below _ ys st su (ap (λ (x : Entry). x.verdict) first) second held in
        let top : record { start = right.start; verdict = v } ≡ record { start = length below; verdict = told (joined o t u) } =
        (let p = ap (λ (x : Entry). x.start) second in let q = m.tells in cc) in
        let rest : take (depth - 2) b.entries.items ≡ es = ap (λ (xs : List Entry). take (depth - 2) xs) is ∙ below_top es f e d depth two in
        record {
          all = below ++ m.own;
          stack = subst (λ (xs : List Entry). Stack rule (below ++ m.own) xs (joined o t u ∷ ts))
              (sym (ne ∙ ap (λ (xs : List Entry). xs ++ record { start = right.start; verdict = v } ∷ []) rest ∙ ap (λ (x : Entry). es ++ x ∷ []) top))
              (push s m.stores);
          held = m.held;
        }
