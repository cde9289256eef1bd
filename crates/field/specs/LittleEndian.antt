-- Little-endian numbers, from crate `little_endian`.
unfoldable pub use Rattle.little_endian.specs.LittleEndian.{number, number_at, bytes_of}
