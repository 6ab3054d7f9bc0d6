-- What is known of the capture file in some bytes.
use Rattle.std.proofs.Common.{◌≡◌, ℕ, List, None, Result, Err, subst}
use Rattle.std.specs.Prelude.{IsSomeAnd}
use Rattle.pcap_reader.specs.File.{CaptureFile, IsCaptureOf, capture_file, IsKnownLink}
use Rattle.pcap_reader.specs.declared.capture.Capture.{Capture}
use Rattle.pcap_reader.specs.declared.head.CaptureError.{CaptureError}
use Rattle.pcap_reader.specs.declared.head.CaptureError.TheVariants.{NotCapture, LinkUnknown}
use Rattle.pcap_reader.proofs.OneKind.{both-kinds}

-- a capture of a known link type is not refused
pub refused-not : (bytes : List ℕ) (K : CaptureFile → Type 0) (opened : Result Capture CaptureError)
    (error : CaptureError) → opened ≡ Err error
    → IsCaptureOf (λ file. IsKnownLink file.link × K file) bytes → (opened ≡ Err NotCapture → capture_file bytes ≡ None)
    → ((n : ℕ) → opened ≡ Err (LinkUnknown n)
    → IsSomeAnd (capture_file bytes) (λ file. (file.link ≡ n) × ¬ IsKnownLink n)) → ⊥
refused-not bytes K opened NotCapture is known none other =
    subst (λ o. IsSomeAnd o (λ file. IsKnownLink file.link × K file)) (none is) known
refused-not bytes K opened (LinkUnknown n) is known none other =
    both-kinds (capture_file bytes) (λ file. IsKnownLink file.link × K file)
    (λ file. (file.link ≡ n) × ¬ IsKnownLink n) known (other n is)
    (λ file one two. two.1 (subst IsKnownLink two.0 one.0))
