-- The bound on the blocks that are read is no rule of its own: numbers ascend below 40, so any larger bound reads the same. Assumes nothing.
use Prim.Native.Nat.{ℕ, zero, suc, ◌+◌, ◌-◌, ◌≤◌, ◌<◌}
use native.Mathlib.Omega.{arith}
use mathlib.Core.Path.{◌≡◌, refl, ap}
use mathlib.Core.Bool.{cond}
use mathlib.Core.List.{List, [], ◌∷◌}
use Rattle.overlay.specs.declared.block.Block.{Block}
use Rattle.fields.specs.Lines.{Line}
use Rattle.fields.specs.Readers.{no, got, after, give}
use Rattle.soc.specs.Limits.{modules_max}
use Rattle.text_lines.specs.declared.head.Options.{Options}
use Rattle.text_reader.specs.Lines.{LinesRead}
use Rattle.overlay.specs.Overlay.{block, goes_on, to_end, blocks}
use Rattle.overlay.proofs.BlockLaws.{block_within}

-- with numbers from low on there is room for a block more than can come
pub blocks_enough : (o : Options) (n k low : ℕ) (ls : List Line) → low ≤ modules_max → modules_max < n + low → modules_max < k + low → blocks o n low ls ≡ blocks o k low ls
unfolding blocks after
blocks_enough o zero k low ls h i j = absurd (omega arith)
blocks_enough o (suc n) zero low ls h i j = absurd (omega arith)
blocks_enough o (suc n) (suc k) low ls h i j = go (block o low ls) (λ b ms e. block_within o low ls b ms e) (λ m js p q r. blocks_enough o n k m js p q r) refl
  where
    go : (g : LinesRead Block) → ((b : Block) (ms : List Line) → block o low ls ≡ got b ms → (low ≤ b.number) × (b.number ≤ modules_max - 1))
        → ((m : ℕ) (js : List Line) → m ≤ modules_max → modules_max < n + m → modules_max < k + m → blocks o n m js ≡ blocks o k m js)
        → block o low ls ≡ g
        → after g (λ b. λ s. after (to_end (blocks o n (suc b.number)) s) (λ bs. give (b ∷ bs))) ≡ after g (λ b. λ s. after (to_end (blocks o k (suc b.number)) s) (λ bs. give (b ∷ bs)))
    go (no c) w f e = refl
    go (got b ms) w f e =
        let v = w b ms e in
        let q = f (suc b.number) ms (omega (arith, v)) (omega (arith, v)) (omega (arith, v)) in
        ap (λ x. after (cond (goes_on ms) x (got [] ms)) (λ bs. give (b ∷ bs))) q
