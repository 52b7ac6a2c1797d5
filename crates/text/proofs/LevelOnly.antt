-- Laws of a module's first line that is read (document 01, "The SOC text": `Level` to the lengths of the chains): what a reading that
-- gives figures says of the fields and of the figures. Assumes nothing.
use Prim.Native.Nat.{ℕ, zero, suc, ◌≤◌}
use mathlib.Core.Path.{◌≡◌, refl, sym, ap, ◌∙◌}
use mathlib.Core.Bool.{true}
use mathlib.Core.List.{List, [], ◌∷◌, map}
use native.Mathlib.Omega.{arith}
use borrow.Author.Tests.{le-leb}
use lib.Dec.{leb}
use lib.ListN.{length}
use Rattle.std.specs.Prelude.{Ok}
use Rattle.units.specs.declared.FlipFlops.{FlipFlops}
use Rattle.fields.specs.Bytes.{bytes}
use Rattle.fields.specs.Readers.{got, each}
use Rattle.fields.specs.WrittenLines.{decimal}
use Rattle.units.proofs.TestLaws.{within_true}
use Rattle.soc.specs.Limits.{level_max, terminals_max, chains_max, length_max}
use Rattle.units.specs.Places.{padded, all_of}
use Rattle.soc.specs.Record.{flip_flops}
use Rattle.soc.specs.Rules.{good_length, level_rule}
use Rattle.text_lines.specs.Parts.{whole}
use Rattle.text_lines.specs.Kinds.{level, terminals, chain_length, lengths_part, chains_part, level_line}
use Rattle.text_lines.specs.declared.level.Terminals.{Terminals}
use Rattle.text_lines.specs.declared.level.Shape.{Shape}
use Rattle.text_lines.specs.LineFields.{length_field, module_fields}
use Rattle.text.proofs.PartOnly.{closed_only, after_only, key_only, between_only, rule_only, keyed_only, key-due_only}

-- the lengths of chains

pub length_only : (fs : List (List ℕ)) (l : FlipFlops) (gs : List (List ℕ)) → chain_length fs ≡ got l gs → (fs ≡ length_field l ∷ gs) × (good_length l ≡ true)
unfolding chain_length length_field
length_only fs l gs h =
    let t = after_only h in
    let n = between_only 1 length_max fs t.value t.left t.first in
    let e : flip_flops t.value ≡ l = cc in
    let v : t.value ≡ l.0 = ap (λ (f : FlipFlops). f.0) e in
    (cc, within_true 1 l.0 length_max (omega arith) (omega arith))

pub record Lengths (n : ℕ) (fs : List (List ℕ)) (ls : List FlipFlops) : Type 0 where
  pub fields : fs ≡ map length_field ls
  pub count : n ≡ length ls
  pub good : all_of good_length ls ≡ true

pub lengths_only : (n i : ℕ) (fs : List (List ℕ)) (ls : List FlipFlops) → each n (λ _. chain_length) i fs ≡ got ls [] → Lengths n fs ls
unfolding each all_of
lengths_only zero i fs ls h =
    let e : [] ≡ ls = cc in
    rw (← e) (record { fields = cc; count = refl; good = refl })
lengths_only (suc n) i fs ls h =
    let a = after_only h in
    let b = after_only a.second in
    let l = length_only fs a.value a.left a.first in
    let s : b.left ≡ [] = cc in
    let r = lengths_only n (suc i) a.left b.value (b.first ∙ ap (got b.value) s) in
    let e : a.value ∷ b.value ≡ ls = cc in
    rw (← e) (record { fields = cc; count = ap suc r.count; good = simp (l.1, r.good) })

-- the parts of a module's first line

record LevelSays (m last : ℕ) (fs : List (List ℕ)) (v : ℕ) (gs : List (List ℕ)) : Type 0 where
  fields : fs ≡ module_fields m (bytes "Level" ∷ decimal v ∷ gs)
  most : leb v level_max ≡ true
  follows : level_rule m last v ≡ true

level-part : (m last : ℕ) (fs : List (List ℕ)) (v : ℕ) (gs : List (List ℕ)) → level m last fs ≡ got v gs → LevelSays m last fs v gs
unfolding level
level-part m last fs v gs h =
    let a = after_only h in
    let b = after_only a.second in
    let c = after_only b.second in
    let d = key-due_only (bytes "Module") fs a.left m a.value a.first in
    let k = keyed_only (bytes "Level") a.left b.left 0 level_max b.value b.first in
    let r = rule_only (level_rule m last b.value) b.left c.left c.value c.first in
    let e : b.value ≡ v = cc in
    record { fields = cc; most = le-leb v level_max (omega (arith, k.most)); follows = ap (level_rule m last) (sym e) ∙ r.0 }

record TerminalsSay (fs : List (List ℕ)) (t : Terminals) (gs : List (List ℕ)) : Type 0 where
  fields : fs ≡ bytes "Inputs" ∷ decimal t.inputs ∷ bytes "Outputs" ∷ decimal t.outputs ∷ bytes "Bidirs" ∷ decimal t.bidirs ∷ gs
  inputs : t.inputs ≤ terminals_max
  outputs : t.outputs ≤ terminals_max
  bidirs : t.bidirs ≤ terminals_max

terminals-part : (fs : List (List ℕ)) (t : Terminals) (gs : List (List ℕ)) → terminals fs ≡ got t gs → TerminalsSay fs t gs
unfolding terminals
terminals-part fs t gs h =
    let a = after_only h in
    let b = after_only a.second in
    let c = after_only b.second in
    let i = keyed_only (bytes "Inputs") fs a.left 0 terminals_max a.value a.first in
    let o = keyed_only (bytes "Outputs") a.left b.left 0 terminals_max b.value b.first in
    let d = keyed_only (bytes "Bidirs") b.left c.left 0 terminals_max c.value c.first in
    let e : t ≡ record { inputs = a.value; outputs = b.value; bidirs = c.value } = cc in
    let x : t.inputs ≡ a.value = ap (λ (r : Terminals). r.inputs) e in
    let y : t.outputs ≡ b.value = ap (λ (r : Terminals). r.outputs) e in
    let z : t.bidirs ≡ c.value = ap (λ (r : Terminals). r.bidirs) e in
    record { fields = cc; inputs = omega (arith, i.most); outputs = omega (arith, o.most); bidirs = omega (arith, d.most) }

record ChainsSay (v : ℕ) (t : Terminals) (fs : List (List ℕ)) (s : Shape) : Type 0 where
  chains : List FlipFlops
  fields : fs ≡ bytes "ScanChains" ∷ decimal s.chains.count ∷ bytes ":" ∷ map length_field chains
  level : s.level ≡ v
  terminals : s.terminals ≡ t
  count : s.chains.count ≡ length chains
  places : s.chains.lengths ≡ padded chains_max (flip_flops 0) chains
  room : length chains ≤ chains_max
  good : all_of good_length chains ≡ true

record LengthsSay (n v : ℕ) (t : Terminals) (fs : List (List ℕ)) (s : Shape) : Type 0 where
  chains : List FlipFlops
  lengths : Lengths n fs chains
  is : s ≡ record { level = v; terminals = t; chains = record { count = n; lengths = padded chains_max (flip_flops 0) chains } }

lengths-part : (n v : ℕ) (t : Terminals) (fs : List (List ℕ)) (s : Shape) → lengths_part n v t fs ≡ got s [] → LengthsSay n v t fs s
unfolding lengths_part
lengths-part n v t fs s h =
    let a = after_only h in
    let e : a.left ≡ [] = cc in
    record { chains = a.value; lengths = lengths_only n 0 fs a.value (a.first ∙ ap (got a.value) e); is = cc }

chains-part : (v : ℕ) (t : Terminals) (fs : List (List ℕ)) (s : Shape) → chains_part v t fs ≡ got s [] → ChainsSay v t fs s
unfolding chains_part
chains-part v t fs s h =
    let a = after_only h in
    let k = keyed_only (bytes "ScanChains") fs a.left 0 chains_max a.value a.first in
    let b = key_only (bytes ":") (lengths_part a.value v t) a.left s [] a.second in
    let c = lengths-part a.value v t b.left s b.reads in
    let n : s.chains.count ≡ a.value = ap (λ (r : Shape). r.chains.count) c.is in
    let l : b.left ≡ map length_field c.chains = c.lengths.fields in
    let m : a.value ≡ length c.chains = c.lengths.count in
    record {
      chains = c.chains;
      fields = cc;
      level = ap (λ (r : Shape). r.level) c.is;
      terminals = ap (λ (r : Shape). r.terminals) c.is;
      count = n ∙ m;
      places = ap (λ (r : Shape). r.chains.lengths) c.is;
      room = omega (arith, k.most);
      good = c.lengths.good;
    }

-- a module's first line

pub record ShapeSays (m last : ℕ) (fs : List (List ℕ)) (s : Shape) : Type 0 where
  pub chains : List FlipFlops
  pub fields : fs
      ≡ module_fields m
      (bytes "Level"
      ∷ decimal s.level
      ∷ bytes "Inputs"
      ∷ decimal s.terminals.inputs
      ∷ bytes "Outputs"
      ∷ decimal s.terminals.outputs
      ∷ bytes "Bidirs"
      ∷ decimal s.terminals.bidirs
      ∷ bytes "ScanChains"
      ∷ decimal s.chains.count
      ∷ bytes ":"
      ∷ map length_field chains)
  pub count : s.chains.count ≡ length chains
  pub places : s.chains.lengths ≡ padded chains_max (flip_flops 0) chains
  pub room : length chains ≤ chains_max
  pub good : all_of good_length chains ≡ true
  pub level : leb s.level level_max ≡ true
  pub follows : level_rule m last s.level ≡ true
  pub inputs : s.terminals.inputs ≤ terminals_max
  pub outputs : s.terminals.outputs ≤ terminals_max
  pub bidirs : s.terminals.bidirs ≤ terminals_max

pub level_only : (m last : ℕ) (fs : List (List ℕ)) (s : Shape) → whole (level_line m last) fs ≡ Ok s → ShapeSays m last fs s
unfolding level_line
level_only m last fs s h =
    let a = after_only (closed_only (level_line m last fs) s h) in
    let b = after_only a.second in
    let v = level-part m last fs a.value a.left a.first in
    let t = terminals-part a.left b.value b.left b.first in
    let c = chains-part a.value b.value b.left s b.second in
    let p : s.level ≡ a.value = c.level in
    let q : s.terminals ≡ b.value = c.terminals in
    let i : s.terminals.inputs ≡ b.value.inputs = ap (λ (r : Terminals). r.inputs) q in
    let o : s.terminals.outputs ≡ b.value.outputs = ap (λ (r : Terminals). r.outputs) q in
    let d : s.terminals.bidirs ≡ b.value.bidirs = ap (λ (r : Terminals). r.bidirs) q in
    record {
      chains = c.chains;
      fields = cc;
      count = c.count;
      places = c.places;
      room = c.room;
      good = c.good;
      level = ap (λ n. leb n level_max) p ∙ v.most;
      follows = ap (level_rule m last) p ∙ v.follows;
      inputs = omega (arith, t.inputs);
      outputs = omega (arith, t.outputs);
      bidirs = omega (arith, t.bidirs);
    }
