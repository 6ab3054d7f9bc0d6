-- What contracts see of a capture.
use Rattle.std.specs.Prelude.{ℕ, List}
use Rattle.pcapng_reader.specs.declared.capture.PngCapture.{PngCapture}

-- the bytes of the file that a capture reads
abbrev pub bytes_of : PngCapture → List ℕ
bytes_of c = c.bytes.now
