-- The fragment with some fields as a function: the one answer that `IsPartOf` allows, as the law
-- `fragments_have_fields` says.
use Rattle.std.specs.Prelude.{◌<◌, ◌≤◌, ◌^◌, Option, Some, None, option_and_then}
use native.Mathlib.Decide.{dec_lt, dec_le}
use Rattle.flow_key.specs.declared.key.FlowKey.{FlowKey}
use Rattle.flow_key.specs.KeyWith.{key_with}
use Rattle.flow_parts.specs.declared.fragment.Fragment.{Fragment}
use Rattle.flow_parts.specs.Fields.{PartFields, AreCounts}

-- Whether four facts hold.
unfoldable pub all_four : {A B C D : Type 0} → Dec A → Dec B → Dec C → Dec D → Dec (A × B × C × D)
all_four (yes a) (yes b) (yes c) (yes d) = yes (a, b, c, d)
all_four (yes a) (yes b) (yes c) (no d) = no (λ facts. d facts.3)
all_four (yes a) (yes b) (no c) d = no (λ facts. c facts.2)
all_four (yes a) (no b) c d = no (λ facts. b facts.1)
all_four (no a) b c d = no (λ facts. a facts.0)

-- Whether numbers fit, where each of the three facts is decided.
unfoldable pub all_counts : (f : PartFields) → Dec (1 ≤ f.packets) → Dec (f.first ≤ f.last)
    → Dec ((f.packets < 2 ^ 64) × (f.octets < 2 ^ 64) × (f.last < 2 ^ 64) × (f.flags < 2 ^ 16)) → Dec (AreCounts f)
all_counts f (yes counted) (yes spanned) (yes sized) =
    yes (record { counted = counted; spanned = spanned; sized = sized })
all_counts f (yes counted) (yes spanned) (no sized) = no (λ fit. sized fit.sized)
all_counts f (yes counted) (no spanned) sized = no (λ fit. spanned fit.spanned)
all_counts f (no counted) spanned sized = no (λ fit. counted fit.counted)

-- Whether the numbers behind the key fit a fragment.
unfoldable pub counts_or_not : (f : PartFields) → Dec (AreCounts f)
counts_or_not f =
    all_counts f (dec_le 1 f.packets) (dec_le f.first f.last)
    (all_four (dec_lt f.packets (2 ^ 64)) (dec_lt f.octets (2 ^ 64)) (dec_lt f.last (2 ^ 64)) (dec_lt f.flags (2 ^ 16)))

-- The fragment with this key and these numbers behind it, where they fit or don't.
unfoldable pub part_where : (f : PartFields) → Dec (AreCounts f) → FlowKey → Option Fragment
part_where f (yes fit) key = Some (record {
  key = key;
  packets = f.packets;
  octets = f.octets;
  first = f.first;
  last = f.last;
  flags = f.flags;
  counted = fit.counted;
  spanned = fit.spanned;
  sized = fit.sized;
})
part_where f (no unfit) key = None

-- The fragment with these fields, and none where they don't fit.
unfoldable pub part_with : PartFields → Option Fragment
part_with fields = option_and_then (part_where fields (counts_or_not fields)) (key_with fields.key)
