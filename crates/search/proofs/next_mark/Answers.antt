-- `search::next_mark`: no place from `from` to below those of the word k has the mark. Assumes nothing.
use mathlib.Core.Path.{◌≡◌, sym, subst}
use Prim.Native.Nat.{ℕ, ◌+◌, ◌*◌, ◌/◌, ◌≤◌}
use native.Mathlib.Nat.{mod-lt}
use native.Mathlib.Omega.{arith}
use lib.Pow.{pow_pos}
use borrow.Author.Rules.{rules}
use Rattle.bits.specs.Bits.{recorded}
use Rattle.search.proofs.Searching.{MarkFree, free_none, next-on, hits_at, hits_word, free_word, next_word}
use Rattle.search.proofs.next_mark.Goals as goal
use Rattle.search.proofs.next_mark.Goals.{then-from-count+else-hits-ne0+else-loop-k-test, else-from-count}

pub returns-then-hits-ne0 : goal.returns-then-hits-ne0
returns-then-hits-ne0 c =
    let a = c.args in
    let here = hits_at a.rec.phase a.rec.bytes.now a.count c.requires.1 a.from _ _ (omega arith) c.word.ensures c.marks.ensures in
    next_word _ a.from a.from _ _ here (free_none _ a.from) c.if-hits-ne0.true (mod-lt _ (pow_pos 64)) (omega arith)

pub loop-k-init : goal.loop-k-init
loop-k-init c =
    let a = c.args in
    let here = hits_at a.rec.phase a.rec.bytes.now a.count c.requires.1 a.from _ _ (omega arith) c.word.ensures c.marks.ensures in
    free_word _ a.from a.from _ _ here (free_none _ a.from) _ c.if-hits-ne0.false (omega arith) (omega arith)

pub returns-then-hits-ne0-2 : goal.returns-then-hits-ne0-2
returns-then-hits-ne0-2 c =
    let a = c.args in
    let q : ℕ = 8 * (a.from / 8 + 6 * c.loop-k.k) in
    let there = hits_word a.rec.phase a.rec.bytes.now a.count c.requires.1 q _ _ (omega arith)
    c.word-in-loop-k.ensures c.marks-hits.ensures in
    next_word _ a.from q _ _ there c.loop-k.invariant c.if-hits-ne0-2.true (search rules) (omega arith)

pub loop-k-preserved : goal.loop-k-preserved
loop-k-preserved c =
    let a = c.args in
    let r : ℕ = 8 * (a.from / 8 + 6 * c.loop-k.k) in
    let there = hits_word a.rec.phase a.rec.bytes.now a.count c.requires.1 r _ _ (omega arith)
    c.word-in-loop-k.ensures c.marks-hits.ensures in
    free_word _ a.from r _ _ there c.loop-k.invariant _ c.if-hits-ne0-2.false (omega arith) (omega arith)

-- before the search place by place, the words have shown no mark, or there was no word
pub returns : goal.returns
returns c =
    let a = c.args in
    let Free : ℕ → Type 0 = λ p. (a.from ≤ p) × MarkFree (recorded a.rec.phase a.rec.bytes.now a.count) a.from p in
    let come : Free c.if-from-count.p =
    elim c.if-from-count.branch [
      | then-from-count+else-hits-ne0+else-loop-k-test w ↦
          let e : 8 * (a.from / 8 + 6 * w.loop-k.k) ≡ c.if-from-count.p = omega (arith, w.p-is, w.loop-k-test.false) in
          (omega (arith, e), subst (MarkFree _ a.from) e w.loop-k.invariant)
      | else-from-count w ↦ subst Free (sym w.p-is) (omega arith, free_none _ a.from)
    ] in
    next-on _ a.from c.if-from-count.p _ come.1 come.0 c.mark_from.ensures
