-- Laws of the first three lines of a text that are read (document 01, "The SOC text": `SocName`, `TotalModules`, `Options`): what a
-- reading that gives figures says of the fields and of the figures. Assumes nothing.
use Prim.Native.Nat.{ℕ, ◌≤◌}
use mathlib.Core.Path.{◌≡◌, sym, ap}
use mathlib.Core.Bool.{true}
use mathlib.Core.List.{List, [], ◌∷◌}
use lib.ListN.{length}
use Rattle.std.specs.Prelude.{Ok}
use Rattle.fields.specs.Bytes.{bytes}
use Rattle.fields.specs.Names.{name_max, is_name}
use Rattle.fields.specs.WrittenLines.{decimal}
use Rattle.soc.specs.Limits.{modules_max}
use Rattle.units.specs.Places.{padded}
use Rattle.text_lines.specs.Parts.{whole}
use Rattle.text_lines.specs.Kinds.{name_part, name_line, total_line, options_part, options_line}
use Rattle.text_lines.specs.declared.head.Name.{Name}
use Rattle.text_lines.specs.declared.head.Options.{Options}
use Rattle.text_lines.specs.LineFields.{flag_field}
use Rattle.text.proofs.PartOnly.{closed_only, after_only, key_only, named_only, keyed_only, key-flag_only}

pub record NameSays (fs : List (List ℕ)) (n : Name) : Type 0 where
  pub field : List ℕ
  pub fields : fs ≡ bytes "SocName" ∷ field ∷ []
  pub named : is_name field ≡ true
  pub len : n.len ≡ length field
  pub bytes : n.bytes ≡ padded name_max 0 field

pub name_only : (fs : List (List ℕ)) (n : Name) → whole name_line fs ≡ Ok n → NameSays fs n
unfolding name_line name_part
name_only fs n h =
    let k = key_only (bytes "SocName") name_part fs n [] (closed_only (name_line fs) n h) in
    let t = after_only k.reads in
    let d = named_only k.left t.value t.left t.first in
    let e : record { len = length t.value; bytes = padded name_max 0 t.value } ≡ n = cc in
    record { field = t.value; fields = cc; named = d.named; len = ap (λ (r : Name). r.len) (sym e); bytes = ap (λ (r : Name). r.bytes) (sym e) }

pub record TotalSays (fs : List (List ℕ)) (n : ℕ) : Type 0 where
  pub fields : fs ≡ bytes "TotalModules" ∷ decimal n ∷ []
  pub least : 1 ≤ n
  pub most : n ≤ modules_max

pub total_only : (fs : List (List ℕ)) (n : ℕ) → whole total_line fs ≡ Ok n → TotalSays fs n
unfolding total_line
total_only fs n h =
    let k = keyed_only (bytes "TotalModules") fs [] 1 modules_max n (closed_only (total_line fs) n h) in
    record { fields = k.fields; least = k.least; most = k.most }

pub options_only : (fs : List (List ℕ)) (o : Options) → whole options_line fs ≡ Ok o → fs ≡ bytes "Options" ∷ bytes "Power" ∷ flag_field o.power ∷ bytes "XY" ∷ flag_field o.xy ∷ []
unfolding options_line options_part
options_only fs o h =
    let k = key_only (bytes "Options") options_part fs o [] (closed_only (options_line fs) o h) in
    let p = after_only k.reads in
    let x = after_only p.second in
    let a = key-flag_only (bytes "Power") k.left p.left p.value p.first in
    let b = key-flag_only (bytes "XY") p.left x.left x.value x.first in
    let e : o ≡ record { power = p.value; xy = x.value } = cc in
    let u : o.power ≡ p.value = ap (λ (r : Options). r.power) e in
    let v : o.xy ≡ x.value = ap (λ (r : Options). r.xy) e in
    cc
