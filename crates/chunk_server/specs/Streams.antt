-- What a peer gives on a connection.
pub use Rattle.http_serve.specs.Streams.{given_in}
